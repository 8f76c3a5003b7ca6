-- Moves are listed one by one, where the rest is still to come.
use Rattle.std.proofs.Common.{◌≡◌, ℕ, ◌+◌, ◌<◌, Bool, true, false, cond, List, [], ◌∷◌, ◌++◌, length, drop, get_or, map, ap, sym, ◌∙◌, add-one, append-nil, append_assoc}
use Rattle.std.specs.List.{enumerate_from, flat_map}
use Rattle.std.proofs.Math.Seq.{drop-cons}
use Rattle.isa.specs.declared.instr.Instr.{Instr}
use Rattle.isa.specs.declared.programs.Programs.{Programs}
use Rattle.moves.specs.declared.one_move.Move.{Move}
use Rattle.moves.specs.Moves.{downward, moves_at, moves_by, upward}

-- ---- a place that passes the test is the next; one that does not ends the list

module _ {B : Type 0} (f : ℕ → B) (test : ℕ → Bool) where
  pub next_down : (left at : ℕ) (old new all : List B) → left ≡ at + 1 → test at ≡ true → old ++ map f (downward test left) ≡ all → new ≡ old ++ f at ∷ []
      → new ++ map f (downward test at) ≡ all
  next_down left at old new all is passes before made =
      ap (λ (ys : List B). ys ++ map f (downward test at)) made ∙ append_assoc old (f at ∷ []) (map f (downward test at))
      ∙ ap (λ (b : Bool). old ++ map f (cond b (at ∷ downward test at) [])) (sym passes)
      ∙ ap (λ (n : ℕ). old ++ map f (downward test n)) (sym (is ∙ add-one at)) ∙ before

  pub next_up : (at count left : ℕ) (old new all : List B) → count ≡ left + 1 → test at ≡ true → old ++ map f (upward test at count) ≡ all → new ≡ old ++ f at ∷ []
      → new ++ map f (upward test (at + 1) left) ≡ all
  next_up at count left old new all is passes before made =
      ap (λ (ys : List B). ys ++ map f (upward test (at + 1) left)) made ∙ append_assoc old (f at ∷ []) (map f (upward test (at + 1) left))
      ∙ ap (λ (b : Bool). old ++ map f (cond b (at ∷ upward test (at + 1) left) [])) (sym passes)
      ∙ ap (λ (n : ℕ). old ++ map f (upward test at n)) (sym (is ∙ add-one left)) ∙ before

  pub up_ends : (at count left : ℕ) (old all : List B) → count ≡ left + 1 → test at ≡ false → old ++ map f (upward test at count) ≡ all → old ≡ all
  up_ends at count left old all is fails before =
      sym (append-nil old) ∙ ap (λ (b : Bool). old ++ map f (cond b (at ∷ upward test (at + 1) left) [])) (sym fails)
      ∙ ap (λ (n : ℕ). old ++ map f (upward test at n)) (sym (is ∙ add-one left)) ∙ before

-- ---- what comes of one element more, with its place

pub grown_by_place : {A B : Type 0} (f : ℕ × A → List B) (xs : List A) (i : ℕ) (d : A) (old new all : List B) → i < length xs
    → old ++ flat_map f (enumerate_from i (drop i xs)) ≡ all → new ≡ old ++ f (i, get_or xs i d)
    → new ++ flat_map f (enumerate_from (i + 1) (drop (i + 1) xs)) ≡ all
grown_by_place {A} {B} f xs i d old new all within before made =
    let rest : List B = flat_map f (enumerate_from (i + 1) (drop (i + 1) xs)) in
    let here : drop i xs ≡ get_or xs i d ∷ drop (i + 1) xs = drop-cons xs i d within ∙ ap (λ (n : ℕ). get_or xs i d ∷ drop n xs) (sym (add-one i)) in
    ap (λ (ys : List B). ys ++ rest) made ∙ append_assoc old (f (i, get_or xs i d)) rest
    ∙ ap (λ (ys : List A). old ++ flat_map f (enumerate_from i ys)) (sym here) ∙ before

-- the moves of the instruction at a place, and those of the programs of a processor
abbrev pub at_place : List Instr → ℕ → Bool → ℕ × Instr → List Move
at_place code processor recovering e = moves_at code (record { processor = processor; recovering = recovering; place = e.0 }) e.1

abbrev pub by_processor : ℕ × Programs → List Move
by_processor e = moves_by e.0 e.1
