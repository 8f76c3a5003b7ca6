-- The tally of two lists, one behind the other.
use Rattle.std.proofs.Common.{◌≡◌, ℕ, ◌+◌, Bool, true, false, cond, not, ◌||◌, List, [], ◌∷◌, ◌++◌, map, Some, None, refl, sym, ap, ap₂, ◌∙◌, arith}
use Rattle.std.specs.Prelude.{count_by, is_some, unwrap_or}
use Rattle.std.specs.List.{filter, list_any}
use Rattle.std.specs.Map.{lookup}
use Rattle.std.proofs.lemmas.List.{map-append}
use Rattle.std.proofs.lemmas.List.Elements.{filter-append}
use Rattle.std.proofs.lemmas.List.Sums.{sum_by-append}
use Rattle.machine.specs.State.{State}
use Rattle.schedule.specs.declared.plan.Plan.{Plan}
use Rattle.hunt.specs.Outcomes.{Observed, is_same, outcomes_from}
use Rattle.hunt.specs.Same.{own_outcome, same_outcome}
use Rattle.hunt.specs.Tallies.{distinct, joined_tallies, tally_from, tally_of}
use Rattle.hunt.proofs.OutcomesJoin.{outcomes_join}
use Rattle.hunt.proofs.TallyOfOneMore.{any_distinct, count_none, counted_so_far, flip, found}

keeps_all : {A : Type 0} (xs : List A) → xs ≡ filter (λ x. true) xs
keeps_all [] = refl
keeps_all (x ∷ xs) = ap (λ l. x ∷ l) (keeps_all xs)

module _ {A : Type 0} (same : A → A → Bool) (sound : (x y : A) → same x y ≡ true → x ≡ y) (own : (x : A) → same x x ≡ true) where
  -- not among these items
  abbrev new_to : List A → A → Bool
  new_to xs y = not (list_any (same y) xs)

  twice : (x : A) (xs zs : List A) → filter (λ z. not (same x z)) (filter (new_to xs) zs) ≡ filter (new_to (x ∷ xs)) zs
  twice x xs [] = refl
  twice x xs (z ∷ zs) = by (same z x) (list_any (same z) xs) refl (twice x xs zs)
    where
      p : A → Bool
      p y = not (same x y)

      inner : List A
      inner = filter (new_to xs) zs

      outer : List A
      outer = filter (new_to (x ∷ xs)) zs

      by : (b c : Bool) → same z x ≡ b → filter p inner ≡ outer
          → filter p (cond (not c) (z ∷ inner) inner) ≡ cond (not (same z x || c)) (z ∷ outer) outer
      by true true e rest = rest ∙ ap (λ a. cond (not (a || true)) (z ∷ outer) outer) (sym e)
      by false true e rest = rest ∙ ap (λ a. cond (not (a || true)) (z ∷ outer) outer) (sym e)
      by true false e rest =
          ap (λ a. cond (not a) (z ∷ filter p inner) (filter p inner)) (flip same sound own x z ∙ e) ∙ rest ∙ ap (λ a. cond (not (a || false)) (z ∷ outer) outer) (sym e)
      by false false e rest =
          ap (λ a. cond (not a) (z ∷ filter p inner) (filter p inner)) (flip same sound own x z ∙ e) ∙ ap (λ l. z ∷ l) rest
          ∙ ap (λ a. cond (not (a || false)) (z ∷ outer) outer) (sym e)

  -- the different ones of both are those of the first, and then those of the second that are not in the first
  distinct_join : (xs ys : List A) → distinct same (xs ++ ys) ≡ distinct same xs ++ filter (new_to xs) (distinct same ys)
  distinct_join [] ys = keeps_all (distinct same ys)
  distinct_join (x ∷ xs) ys =
      ap (λ ds. x ∷ filter (λ z. not (same x z)) ds) (distinct_join xs ys)
      ∙ ap (λ l. x ∷ l) (filter-append (λ z. not (same x z)) (distinct same xs) (filter (new_to xs) (distinct same ys)))
      ∙ ap (λ l. x ∷ (filter (λ z. not (same x z)) (distinct same xs) ++ l)) (twice x xs (distinct same ys))

  abbrev count : List A → A → ℕ
  count xs x = count_by (same x) xs

  counts_add : (xs ys : List A) (x : A) → count (xs ++ ys) x ≡ count xs x + count ys x
  counts_add xs ys x = sum_by-append (λ y. cond (same x y) 1 0) xs ys

  in_tally : (xs : List A) (y : A) → is_some (lookup (same y) (tally_of same xs)) ≡ list_any (same y) xs
  in_tally xs y =
      ap is_some (found same sound own (count xs) y (distinct same xs)) ∙ by (list_any (same y) (distinct same xs)) ∙ any_distinct same sound own y xs
    where
      by : (b : Bool) → is_some (cond b (Some (count xs y)) None) ≡ b
      by true = refl
      by false = refl

  -- the outcomes of the first, whose counts grow
  first_part : (xs ys ds : List A) → map (λ x. (x, count (xs ++ ys) x)) ds
      ≡ map {B = A × ℕ} (λ (e : A × ℕ). (e.0, e.1 + unwrap_or (lookup (same e.0) (tally_of same ys)) 0)) (map (λ x. (x, count xs x)) ds)
  first_part xs ys [] = refl
  first_part xs ys (d ∷ ds) =
      ap₂ (λ (n : ℕ) (l : List (A × ℕ)). (d, n) ∷ l) (counts_add xs ys d ∙ ap (λ n. count xs d + n) (sym (counted_so_far same sound own ys d))) (first_part xs ys ds)

  -- the outcomes of the second alone
  second_part : (xs ys ds : List A) → map (λ x. (x, count (xs ++ ys) x)) (filter (new_to xs) ds)
      ≡ filter (λ (e : A × ℕ). not (is_some (lookup (same e.0) (tally_of same xs)))) (map (λ x. (x, count ys x)) ds)
  second_part xs ys [] = refl
  second_part xs ys (d ∷ ds) = by (list_any (same d) xs) refl (second_part xs ys ds)
    where
      both : List A → List (A × ℕ)
      both l = map (λ x. (x, count (xs ++ ys) x)) l

      kept : List (A × ℕ)
      kept = filter (λ (e : A × ℕ). not (is_some (lookup (same e.0) (tally_of same xs)))) (map (λ x. (x, count ys x)) ds)

      by : (b : Bool) → list_any (same d) xs ≡ b → both (filter (new_to xs) ds) ≡ kept
          → both (cond (not (list_any (same d) xs)) (d ∷ filter (new_to xs) ds) (filter (new_to xs) ds))
          ≡ cond (not (is_some (lookup (same d) (tally_of same xs)))) ((d, count ys d) ∷ kept) kept
      by true e rest =
          ap (λ a. both (cond (not a) (d ∷ filter (new_to xs) ds) (filter (new_to xs) ds))) e ∙ rest
          ∙ ap (λ a. cond (not a) ((d, count ys d) ∷ kept) kept) (sym (in_tally xs d ∙ e))
      by false e rest =
          let none : 0 + count ys d ≡ count ys d = omega arith in
          let here : count (xs ++ ys) d ≡ count ys d = counts_add xs ys d ∙ ap (λ n. n + count ys d) (count_none (same d) xs e) ∙ none in
          ap (λ a. both (cond (not a) (d ∷ filter (new_to xs) ds) (filter (new_to xs) ds))) e
          ∙ ap₂ (λ (n : ℕ) (l : List (A × ℕ)). (d, n) ∷ l) here rest
          ∙ ap (λ a. cond (not a) ((d, count ys d) ∷ kept) kept) (sym (in_tally xs d ∙ e))

  both_parts : (xs ys : List A) → tally_of same (xs ++ ys)
      ≡ map {B = A × ℕ} (λ (e : A × ℕ). (e.0, e.1 + unwrap_or (lookup (same e.0) (tally_of same ys)) 0)) (tally_of same xs)
      ++ filter (λ (e : A × ℕ). not (is_some (lookup (same e.0) (tally_of same xs)))) (tally_of same ys)
  both_parts xs ys =
      ap (map (λ x. (x, count (xs ++ ys) x))) (distinct_join xs ys)
      ∙ map-append (λ x. (x, count (xs ++ ys) x)) (distinct same xs) (filter (new_to xs) (distinct same ys))
      ∙ ap₂ (λ l m. l ++ m) (first_part xs ys (distinct same xs)) (second_part xs ys (distinct same ys))

pub tally_of_both : (xs ys : List Observed) → tally_of is_same (xs ++ ys) ≡ joined_tallies (tally_of is_same xs) (tally_of is_same ys)
tally_of_both xs ys = both_parts is_same same_outcome own_outcome xs ys

pub adjoining_ranges : (plan : Plan) (s : State) (first a b : ℕ) → tally_from plan s first (a + b) ≡ joined_tallies (tally_from plan s first a) (tally_from plan s (first + a) b)
adjoining_ranges plan s first a b =
    ap (tally_of is_same) (outcomes_join plan s first a b) ∙ tally_of_both (outcomes_from plan s first a) (outcomes_from plan s (first + a) b)
