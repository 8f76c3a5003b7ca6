-- A bound grows.
use Rattle.std.proofs.Common.{◌≡◌, ℕ, ◌≤◌, Bool, true, Some, List, [], ◌∷◌, ◌++◌, length, sym, subst, ◌∙◌, arith}
use Rattle.std.specs.List.{All}
use Rattle.std.specs.Option.{option_to_list}
use Rattle.std.proofs.lemmas.List.Elements.{All-pop, All-push}
use Rattle.isa.specs.Objects.{Object}
use Rattle.explore.specs.declared.question.Question.{Question}
use Rattle.choices.specs.Choices.{is_within}
use Rattle.choices.proofs.Above.{within_chain}
use Rattle.mends.specs.Searches.{IsBound}

-- of candidates: from a place, up to another
abbrev pub IsRange : ℕ → ℕ × ℕ → Type 0
IsRange count range = (range.0 ≤ range.1) × (range.1 ≤ count)

pub rest_are_ranges : (count : ℕ) (ranges left : List (ℕ × ℕ)) (from to : ℕ) → ranges ≡ left ++ option_to_list (Some (from, to)) → All (IsRange count) ranges
    → All (IsRange count) left × IsRange count (from, to)
rest_are_ranges count ranges left from to is all = All-pop (IsRange count) ranges left (Some (from, to)) is all

-- The two halves of a range are put back.
pub halves_are_ranges : (count from to middle : ℕ) (left one two : List (ℕ × ℕ)) → All (IsRange count) left → from ≤ middle → middle ≤ to → to ≤ count
    → one ≡ left ++ (middle, to) ∷ [] → two ≡ one ++ (from, middle) ∷ [] → All (IsRange count) two
halves_are_ranges count from to middle left one two all low high few first second =
    let with_one : All (IsRange count) one = subst (λ (xs : List (ℕ × ℕ)). All (IsRange count) xs) (sym first) (All-push (IsRange count) left (middle, to) all (high, few)) in
    subst (λ (xs : List (ℕ × ℕ)). All (IsRange count) xs) (sym second) (All-push (IsRange count) one (from, middle) with_one (low, omega (arith, high, few)))

-- What is above a bound that is above a choice is above the choice.
pub above_both : (question : Question) (object : Object) (choice bound more : List Bool) → IsBound question object choice → IsBound question object bound → length more ≡ length bound
    → is_within choice bound ≡ true → is_within bound more ≡ true → is_within choice more ≡ true
above_both question object choice bound more first second same below above =
    within_chain choice bound more (first.is_choice ∙ sym second.is_choice) (sym same) below above
