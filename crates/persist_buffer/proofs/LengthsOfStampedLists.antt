-- How many entries a list with serials has.
use Rattle.std.proofs.Common.{◌≡◌, ℕ, suc, ◌+◌, ◌-◌, ◌<◌, ◌≤◌, Bool, List, [], ◌∷◌, length, arith, inl, inr}
use Rattle.std.specs.Prelude.{IsSome, find}
use Rattle.std.specs.List.{AllByRecursion}
use Rattle.std.proofs.lemmas.Bool.{cases_Bool}
use Rattle.persist_buffer.specs.declared.ring.StampedEntry.{StampedEntry}
use Rattle.persist_buffer.specs.Rings.{Rising}
use Rattle.persist_buffer.specs.Firsts.{drop_first}

few_from : (low next : ℕ) (xs : List StampedEntry) → AllByRecursion (λ s. low ≤ s.serial) xs → Rising xs → AllByRecursion (λ s. s.serial < next) xs → length xs ≤ next - low
few_from low next [] h r b = omega arith
few_from low next (x ∷ xs) h r b = let more = few_from (suc x.serial) next xs r.0 r.1 b.1 in omega (arith, more, h.0, b.0)

pub few_below : (next : ℕ) (xs : List StampedEntry) → Rising xs → AllByRecursion (λ s. s.serial < next) xs → length xs ≤ next
few_below next [] r b = omega arith
few_below next (x ∷ xs) r b = let more = few_from (suc x.serial) next xs r.0 r.1 b.1 in omega (arith, more, b.0)

pub one_dropped : (p : StampedEntry → Bool) (xs : List StampedEntry) → IsSome (find p xs) → length (drop_first p xs) + 1 ≡ length xs
one_dropped p [] some = absurd (cc some)
one_dropped p (x ∷ xs) some =
    elim (cases_Bool (p x)) [
      | inl here ↦ rw here (omega arith)
      | inr later ↦ let rest : length (drop_first p xs) + 1 ≡ length xs = one_dropped p xs (rw later at some) in rw later (omega (arith, rest))
    ]
