-- Runs enough for a range are those of the range.
use Rattle.std.proofs.Common.{◌≡◌, ℕ, zero, suc, ◌+◌, ◌-◌, ◌*◌, ◌<◌, ◌≤◌, List, [], ◌∷◌, Result, Ok, subst, arith}
use Rattle.std.specs.Prelude.{map, min, IfOk}
use Rattle.std.specs.List.{AllZip, range_with_len}
use Rattle.std.specs.Int.{div_ceil}
use Rattle.hunt.specs.Runs.{AreRuns, IsRunAt, Meaning}

moved : {A : Type 0} (IsRun : Meaning A) (a b n m : ℕ) (vs : List A) → a ≡ b → n ≡ m → AreRuns IsRun a n vs → AreRuns IsRun b m vs
moved IsRun a b n m vs e f h = subst (λ (z : ℕ × ℕ). AreRuns IsRun z.0 z.1 vs) (λ i. (e i, f i)) h

module _ {A E : Type 0} (IsRun : Meaning A) (first count : ℕ) where
  -- run k was made
  abbrev pub Gives : ℕ → Result A E → Type 0
  Gives k made = IfOk made (IsRunAt IsRun first count k)

  tight : (n k : ℕ) (xs : List (Result A E)) (w : A) (ws : List A) → AllZip Gives (range_with_len k n) xs → xs ≡ map Ok (w ∷ ws) → 1 ≤ n
  tight zero k [] w ws h is = absurd (cc is)
  tight zero k (x ∷ xs) w ws h is = absurd h
  tight (suc n) k xs w ws h is = omega arith

  -- the runs from k on
  runs_from : (n k : ℕ) (xs : List (Result A E)) (vs : List A) → count ≤ 256 * (k + n) → ((j : ℕ) → j < k + n → 256 * j < count)
      → AllZip Gives (range_with_len k n) xs → xs ≡ map Ok vs → AreRuns IsRun (first + 256 * k) (count - 256 * k) vs
  runs_from zero k [] [] most least h is = omega (arith, most)
  runs_from zero k [] (v ∷ vs) most least h is = absurd (cc is)
  runs_from zero k (x ∷ xs) vs most least h is = absurd h
  runs_from (suc n) k [] vs most least h is = absurd h
  runs_from (suc n) k (x ∷ xs) [] most least h is = absurd (cc is)
  runs_from (suc n) k (x ∷ xs) (v ∷ vs) most least h is =
      let head : x ≡ Ok v = cc is in let tail : xs ≡ map Ok vs = cc is in
      let here : IsRun (first + 256 * k) (min 256 (count - 256 * k)) v = subst (Gives k) head h.0 in
      (here, rest vs tail (λ enough. runs_from n (k + 1) xs vs (omega (arith, most)) (λ j low. least j (omega (arith, low))) h.1 tail))
    where
      rest : (vs : List A) → xs ≡ map Ok vs → (Unit {0} → AreRuns IsRun (first + 256 * (k + 1)) (count - 256 * (k + 1)) vs)
          → AreRuns IsRun ((first + 256 * k) + min 256 (count - 256 * k)) ((count - 256 * k) - min 256 (count - 256 * k)) vs
      rest [] tail later = let none = later tt in omega (arith, none)
      rest (w ∷ ws) tail later =
          let some = tight n (k + 1) xs w ws h.1 tail in
          let full : 256 * (k + 1) < count = least (k + 1) (omega (arith, some)) in
          moved IsRun (first + 256 * (k + 1)) ((first + 256 * k) + min 256 (count - 256 * k)) (count - 256 * (k + 1)) ((count - 256 * k) - min 256 (count - 256 * k))
          (w ∷ ws) (omega (arith, full)) (omega arith) (later tt)

  -- runs enough for a range
  pub all_runs : (runs : ℕ) (xs : List (Result A E)) (vs : List A) → runs ≡ div_ceil count 256
      → AllZip Gives (range_with_len 0 runs) xs → xs ≡ map Ok vs → AreRuns IsRun first count vs
  all_runs runs xs vs enough h is =
      moved IsRun (first + 256 * 0) first (count - 256 * 0) count vs (omega arith) (omega arith)
      (runs_from runs 0 xs vs (omega (arith, enough)) (λ j low. omega (arith, enough, low)) h is)
