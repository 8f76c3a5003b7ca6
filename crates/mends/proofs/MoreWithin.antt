-- A choice with more.
use Rattle.std.proofs.Common.{◌≡◌, ℕ, zero, suc, ◌≤◌, Bool, true, false, not, ◌||◌, List, [], ◌∷◌, length, take, refl, sym, subst, ◌∙◌}
use Rattle.std.specs.Prelude.{slice_set}
use Rattle.std.specs.List.{All}
use Rattle.std.proofs.lemmas.Bool.{and_from, and_parts, false≢true, or_right}
use Rattle.std.proofs.lemmas.List.{take_all}
use Rattle.std.proofs.lemmas.List.Elements.{All-contains}
use Rattle.choices.specs.Choices.{is_within}
use Rattle.mends.specs.declared.outcome.Open.{Open}
use Rattle.mends.specs.Mends.{IsLeftOpen}

-- One flag more is set.
pub still_within : (choice more : List Bool) (at : ℕ) → is_within choice more ≡ true → is_within choice (slice_set more at true) ≡ true
still_within [] more at is = refl
still_within (x ∷ choice) [] at is = is
still_within (x ∷ choice) (y ∷ more) zero is = and_from (not x || true) (is_within choice more) (or_right (not x) true refl) (and_parts (not x || y) (is_within choice more) is).1
still_within (x ∷ choice) (y ∷ more) (suc at) is =
    let parts = and_parts (not x || y) (is_within choice more) is in and_from (not x || y) (is_within choice (slice_set more at true)) parts.0 (still_within choice more at parts.1)

-- A choice that is within none that is open is not left open.
pub not_left_open : (untold : List Open) (choice : List Bool) (at : ℕ) → length untold ≤ at → All (λ one. is_within choice one.choice.items ≡ false) (take at untold) → IsLeftOpen untold choice → ⊥
not_left_open untold choice at past none (one, there, within) =
    false≢true (sym (All-contains (λ (o : Open). is_within choice o.choice.items ≡ false) untold one (subst (λ (xs : List Open). All (λ o. is_within choice o.choice.items ≡ false) xs) (take_all at untold past) none) there) ∙ within)
