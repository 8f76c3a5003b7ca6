-- Masks after an operation came or went.
use Rattle.std.proofs.Common.{◌≡◌, ℕ, ◌+◌, ◌-◌, ◌*◌, ◌%◌, ◌^◌, ◌<◌, ◌≤◌, Bool, true, false, Option, Some, None, List, [], ◌∷◌, ◌++◌, length, get_or, set, map, refl, sym, ◌∙◌, ap, arith, length-append, inl, inr}
use Rattle.std.specs.Prelude.{bit_or, remove, slice_index, nat_lt, ◌==◌}
use Rattle.std.proofs.Math.ListN.{length-set}
use Rattle.std.proofs.Math.Seq.{get_or-append_seam}
use Rattle.std.proofs.lemmas.Bool.{cases_Bool, eqb-true}
use Rattle.std.proofs.lemmas.Bool.Decides.{nat_tests}
use Rattle.std.proofs.lemmas.Grind.{get_or-set_at}
use Rattle.std.proofs.lemmas.List.{get_or-map, get_or-set_other, get_or_append_left, length-map}
use Rattle.std.proofs.lemmas.List.Edits.{get_or-remove_below, get_or-remove_above, length-remove}
use Rattle.order_table.specs.declared.Kind.{Kind}
use Rattle.order_table.specs.declared.masks.TheConstants.{KINDS, LINES}
use Rattle.order_table.specs.Operations.{Operation, IsLine}
use Rattle.order_table.specs.Places.{number_of, is_of, is_on, places_of, operations_in, without_place, AreMasks}
use Rattle.order_table.proofs.MasksOverLists.{place_added, place_not_added, place_removed}
use Rattle.order_table.proofs.DecodedOperations.{number_below, decoded, stand, Stand, length_decoded}

-- ---- an operation more

-- a mask of those to one of which a place is added
module _ (w : ℕ) (operations : List Operation) (len : ℕ) (whole : length operations ≡ len) (room : len < w) (operation : Operation) where
  abbrev bit : ℕ
  bit = 1 * 2 ^ len % 2 ^ w

  one_added : (masks : List ℕ) (n k : ℕ) (test : Operation → Bool) → n < length masks → get_or masks k 0 ≡ places_of test operations → test operation ≡ (n == k)
      → get_or (set masks n (bit_or (get_or masks n 0) bit)) k 0 ≡ places_of test (operations ++ operation ∷ [])
  one_added masks n k test there is same =
      elim (cases_Bool (n == k)) [
        | inl here ↦
            let k_is : n ≡ k = eqb-true n k here in
            let passes : test operation ≡ true = same ∙ here in
            let mask : get_or masks n 0 ≡ places_of test operations = ap (λ (x : ℕ). get_or masks x 0) k_is ∙ is in
            get_or-set_at masks n k (bit_or (get_or masks n 0) bit) 0 (sym k_is) there
            ∙ ap (λ (x : ℕ). bit_or x bit) mask
            ∙ place_added test w operations operation len whole room passes
        | inr elsewhere ↦
            let fails : test operation ≡ false = same ∙ elsewhere in
            get_or-set_other masks n k (bit_or (get_or masks n 0) bit) 0 (grind (arith, nat_tests, elsewhere))
            ∙ is
            ∙ place_not_added test operations operation fails
      ]

  named_more : IsLine operation.1 → ((place : ℕ) (d : Operation) → place < length operations → IsLine (get_or operations place d).1)
      → (place : ℕ) (d : Operation) → place < length (operations ++ operation ∷ []) → IsLine (get_or (operations ++ operation ∷ []) place d).1
  named_more line named place d there =
      let long = length-append operations (operation ∷ []) in
      elim (cases_Bool (place == length operations)) [
        | inl last ↦
            let last_is : place ≡ length operations = eqb-true place (length operations) last in
            let read : get_or (operations ++ operation ∷ []) place d ≡ operation = rw last_is (get_or-append_seam operations operation [] d) in
            rw read line
        | inr before ↦
            let within : place < length operations = grind (arith, nat_tests, before, there, long) in
            rw (get_or_append_left operations (operation ∷ []) d place within) (named place d within)
      ]

module _ (w : ℕ) (kinds lines : List ℕ) (len : ℕ) (are : Stand kinds lines len) (all_kinds : length kinds ≡ KINDS) (all_lines : length lines ≡ LINES) (room : len < w) (kind : Kind) where
  abbrev old : List Operation
  old = operations_in kinds lines len

  abbrev place : ℕ
  place = 1 * 2 ^ len % 2 ^ w

  abbrev kinds_after : List ℕ
  kinds_after = set kinds (number_of kind) (bit_or (get_or kinds (number_of kind) 0) place)

  abbrev lines_after : ℕ → List ℕ
  lines_after line = set lines line (bit_or (get_or lines line 0) place)

  kinds_added : (line : Option ℕ) (k : Kind) → slice_index kinds_after (number_of k) ≡ places_of (is_of k) (old ++ (kind, line) ∷ [])
  kinds_added line k =
      let below = number_below kind in
      one_added w old len (length_decoded kinds lines len) room (kind, line) kinds (number_of kind) (number_of k) (is_of k) (omega (arith, below, all_kinds)) (are.of_kinds k) refl

  added_none : AreMasks (old ++ (kind, None) ∷ []) kinds_after lines
  added_none = record {
    of_kinds = kinds_added None;
    of_lines = λ line within. are.of_lines line within ∙ place_not_added (is_on line) old (kind, None) refl;
    named = named_more w old len (length_decoded kinds lines len) room (kind, None) tt are.named;
  }

  added_some : (line : ℕ) → line < LINES → AreMasks (old ++ (kind, Some line) ∷ []) kinds_after (lines_after line)
  added_some line within = record {
    of_kinds = kinds_added (Some line);
    of_lines = λ l inside. one_added w old len (length_decoded kinds lines len) room (kind, Some line) lines line l (is_on l) (omega (arith, within, all_lines)) (are.of_lines l inside) refl;
    named = named_more w old len (length_decoded kinds lines len) room (kind, Some line) within are.named;
  }

  longer : (line : Option ℕ) → length (old ++ (kind, line) ∷ []) ≡ len + 1
  longer line = let now = length_decoded kinds lines len in let long = length-append old ((kind, line) ∷ []) in omega (arith, now, long)

  kinds_stay : length kinds_after ≡ KINDS
  kinds_stay = length-set kinds (number_of kind) _ ∙ all_kinds

  lines_stay : (line : ℕ) → length (lines_after line) ≡ LINES
  lines_stay line = length-set lines line _ ∙ all_lines

  pub push_none : operations_in kinds_after lines (len + 1) ≡ old ++ (kind, None) ∷ []
  push_none = decoded (old ++ (kind, None) ∷ []) kinds_after lines (len + 1) added_none kinds_stay all_lines (longer None)

  pub push_none_stands : Stand kinds_after lines (len + 1)
  push_none_stands = stand (old ++ (kind, None) ∷ []) kinds_after lines (len + 1) added_none kinds_stay all_lines (longer None)

  pub push_some : (line : ℕ) → line < LINES → operations_in kinds_after (lines_after line) (len + 1) ≡ old ++ (kind, Some line) ∷ []
  push_some line within = decoded (old ++ (kind, Some line) ∷ []) kinds_after (lines_after line) (len + 1) (added_some line within) kinds_stay (lines_stay line) (longer (Some line))

  pub push_some_stands : (line : ℕ) → line < LINES → Stand kinds_after (lines_after line) (len + 1)
  push_some_stands line within = stand (old ++ (kind, Some line) ∷ []) kinds_after (lines_after line) (len + 1) (added_some line within) kinds_stay (lines_stay line) (longer (Some line))

-- ---- an operation less

module _ (kinds lines : List ℕ) (len : ℕ) (are : Stand kinds lines len) (all_kinds : length kinds ≡ KINDS) (all_lines : length lines ≡ LINES) (place : ℕ) (there : place < len) where
  abbrev before : List Operation
  before = operations_in kinds lines len

  abbrev masks_less : List ℕ → List ℕ
  masks_less masks = map (without_place place) masks

  within_before : place < length before
  within_before = let now = length_decoded kinds lines len in omega (arith, now)

  one_less : (masks : List ℕ) (k : ℕ) (test : Operation → Bool) → k < length masks → get_or masks k 0 ≡ places_of test before
      → get_or (masks_less masks) k 0 ≡ places_of test (remove before place)
  one_less masks k test inside is =
      get_or-map (without_place place) masks k 0 0 inside ∙ ap (without_place place) is ∙ place_removed test before place within_before

  named_less : (k : ℕ) (d : Operation) → k < length (remove before place) → IsLine (get_or (remove before place) k d).1
  named_less k d inside =
      let long = length-remove before place within_before in
      elim (cases_Bool (nat_lt k place)) [
        | inl below ↦
            let under : k < place = grind (arith, nat_tests, below) in
            rw (get_or-remove_below before place d k under within_before) (are.named k d (omega (arith, long)))
        | inr above ↦
            let over : place ≤ k = grind (arith, nat_tests, above) in
            rw (get_or-remove_above before place d k over within_before) (are.named (k + 1) d (omega (arith, long)))
      ]

  removed : AreMasks (remove before place) (masks_less kinds) (masks_less lines)
  removed = record {
    of_kinds = λ kind. let below = number_below kind in one_less kinds (number_of kind) (is_of kind) (omega (arith, below, all_kinds)) (are.of_kinds kind);
    of_lines = λ line within. one_less lines line (is_on line) (omega (arith, within, all_lines)) (are.of_lines line within);
    named = named_less;
  }

  shorter : length (remove before place) ≡ len - 1
  shorter = let now = length_decoded kinds lines len in let long = length-remove before place within_before in omega (arith, now, long)

  pub take_is : operations_in (masks_less kinds) (masks_less lines) (len - 1) ≡ remove before place
  take_is = decoded (remove before place) (masks_less kinds) (masks_less lines) (len - 1) removed (length-map kinds (without_place place) ∙ all_kinds) (length-map lines (without_place place) ∙ all_lines) shorter

  pub take_stands : Stand (masks_less kinds) (masks_less lines) (len - 1)
  take_stands = stand (remove before place) (masks_less kinds) (masks_less lines) (len - 1) removed (length-map kinds (without_place place) ∙ all_kinds) (length-map lines (without_place place) ∙ all_lines) shorter
