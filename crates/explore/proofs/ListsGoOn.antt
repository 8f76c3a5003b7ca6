-- One list after another.
use Rattle.std.proofs.Common.{◌≡◌, ℕ, zero, suc, ◌+◌, ◌<◌, List, [], ◌∷◌, ◌++◌, ap, arith, append_assoc, drop, length, ◌∙◌, refl}
use Rattle.std.specs.Prelude.{slice_get}
use Rattle.std.specs.Option.{option_map_or}

list_more : (lists : List (List ℕ)) (i : ℕ) → i < length lists → option_map_or (λ list. list ∷ []) (slice_get lists i) [] ++ drop (suc i) lists ≡ drop i lists
list_more [] i within = absurd (omega (arith, within))
list_more (x ∷ lists) zero within = refl
list_more (x ∷ lists) (suc i) within = list_more lists i (omega (arith, within))

pub lists_next : (lists : List (List ℕ)) (i : ℕ) (was now : List (List ℕ)) → i < length lists → now ≡ was ++ option_map_or (λ list. list ∷ []) (slice_get lists i) []
    → was ++ drop i lists ≡ lists → now ++ drop (i + 1) lists ≡ lists
lists_next lists i was now within is before =
    let next : i + 1 ≡ suc i = omega arith in
    ap (λ (n : ℕ). now ++ drop n lists) next
    ∙ ap (λ (xs : List (List ℕ)). xs ++ drop (suc i) lists) is
    ∙ append_assoc was (option_map_or (λ list. list ∷ []) (slice_get lists i) []) (drop (suc i) lists)
    ∙ ap (λ (xs : List (List ℕ)). was ++ xs) (list_more lists i within) ∙ before
