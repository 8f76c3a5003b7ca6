-- Instructions that have a mark are in a set.
use Rattle.std.proofs.Common.{◌≡◌, ◌≢◌, ℕ, ◌+◌, ◌*◌, ◌<◌, ◌≤◌, inl, inr, Bool, true, false, List, [], ◌∷◌, ◌++◌, refl, sym, ◌∙◌, arith, true≢false}
use Rattle.std.proofs.lemmas.Bool.{cases_Bool}
use Rattle.std.specs.Prelude.{◌⊎◌, nat_eq, slice_index_or, if◌then◌else◌}
use Rattle.std.specs.List.{list_any}
use Rattle.std.specs.Cmp.Lexicographic.{pointwise}
use Rattle.explore.specs.Ran.{flag_number, site}
use Rattle.explore.specs.Sets.{AreMarks, HasNewMarks, IsMarked, included, mark_at}

any_first : {A : Type 0} (f : A → Bool) (xs ys : List A) → list_any f xs ≡ true → list_any f (xs ++ ys) ≡ true
any_first f [] ys any = absurd (true≢false (sym any))
any_first f (x ∷ xs) ys any =
    elim (cases_Bool (f x)) [
      | inl here ↦ rw here refl
      | inr not_here ↦ rw not_here (any_first f xs ys (rw not_here at any))
    ]

any_included : (x y : List ℕ) (lists : List (List ℕ)) → list_any (pointwise nat_eq x) lists ≡ true → list_any (pointwise nat_eq x) (included lists y) ≡ true
any_included x y lists any =
    elim (cases_Bool (list_any (pointwise nat_eq y) lists)) [
      | inl there ↦ rw there any
      | inr new ↦ rw new (any_first (pointwise nat_eq x) lists (y ∷ []) any)
    ]

pub no_marks : (lists : List (List ℕ)) → AreMarks [] lists
no_marks lists p recovery place is = absurd (true≢false (sym is.1))

pub marks_stay : (marks : List Bool) (lists more : List (List ℕ)) (y : List ℕ) → AreMarks marks lists → more ≡ included lists y → AreMarks marks more
marks_stay marks lists more y are is p recovery place marked = rw is (any_included (site p recovery place) y lists (are p recovery place marked))

pub marks_with : (old new : List Bool) (lists : List (List ℕ)) (p : ℕ) (recovery : Bool) (place : ℕ) → AreMarks old lists → HasNewMarks old new p recovery place
    → list_any (pointwise nat_eq (site p recovery place)) lists ≡ true → AreMarks new lists
marks_with old new lists p recovery place are more there q recovered at marked =
    elim (more q recovered at marked) [
      | inl was ↦ are q recovered at was
      | inr same ↦ (λ k. list_any (pointwise nat_eq (site (same.0 k) (same.1 k) (same.2 k))) lists) ∙ there
    ]

flag_small : (b : Bool) → flag_number b < 2
flag_small true = omega arith
flag_small false = omega arith

flag_tells : (a b : Bool) → flag_number a ≡ flag_number b → a ≡ b
flag_tells true true is = refl
flag_tells true false is = absurd (omega (arith, is))
flag_tells false true is = absurd (omega (arith, is))
flag_tells false false is = refl

-- a mark has one instruction
pub mark_tells : (p q place at : ℕ) (recovery recovered : Bool) → p < 16 → q < 16 → mark_at q recovered at ≡ mark_at p recovery place → (q ≡ p) × (recovered ≡ recovery) × (at ≡ place)
mark_tells p q place at recovery recovered p_small q_small same =
    let one = flag_small recovery in
    let other = flag_small recovered in
    let flags : flag_number recovered ≡ flag_number recovery = omega (arith, same, one, other) in
    let ps : q ≡ p = omega (arith, same, one, other, p_small, q_small) in
    let places : at ≡ place = omega (arith, same, one, other, p_small, q_small) in
    (ps, flag_tells recovered recovery flags, places)
