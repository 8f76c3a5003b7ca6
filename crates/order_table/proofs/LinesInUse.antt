-- The lines in use.
use Rattle.std.proofs.Common.{◌≡◌, ◌≢◌, ℕ, suc, ◌*◌, ◌%◌, ◌^◌, ◌<◌, List, length, get_or, set, map, refl, sym, ◌∙◌, ap, arith, inl, inr}
use Rattle.std.specs.Prelude.{bit_and, bit_or, slice_index, ◌==◌, if◌then◌else◌}
use Rattle.std.specs.Int.{bit_at, bit_not, trailing_zeros, w64}
use Rattle.std.proofs.Math.Nat.{zero-div, zero-mod}
use Rattle.std.proofs.lemmas.Bool.{cases_Bool, eqb-true}
use Rattle.std.proofs.lemmas.Bool.Decides.{nat_tests}
use Rattle.std.proofs.lemmas.Grind.{get_or-set_at}
use Rattle.std.proofs.lemmas.List.{get_or-map, get_or-set_other, length-map, same_lists}
use Rattle.std.proofs.lemmas.Grind.{get_or_default_zero}
use Rattle.std.proofs.lemmas.Nat.{and_le_l}
use Rattle.std.proofs.lemmas.Nat.Bits.{bit_at-zero, bit_at-trailing_zeros, bit_at_set_same, bit_at_set_other, bit_at_clear_same, bit_at_clear_other}
use Rattle.order_table.specs.declared.masks.TheConstants.{LINES}
use Rattle.order_table.specs.Places.{without_place, AreInUse}

-- ---- a line comes into use

pub line_used : (in_use line mask : ℕ) (lines : List ℕ) → line < LINES → AreInUse in_use lines → AreInUse (bit_or in_use (1 * 2 ^ line % 2 ^ 64)) (set lines line mask)
line_used in_use line mask lines within are other inside none =
    elim (cases_Bool (other == line)) [
      | inl here ↦
          let same : other ≡ line = eqb-true other line here in
          let one : bit_at (bit_or in_use (1 * 2 ^ line % 2 ^ 64)) line ≡ 1 = bit_at_set_same w64 in_use line within in
          let zero : bit_at (bit_or in_use (1 * 2 ^ line % 2 ^ 64)) line ≡ 0 = rw same at none in
          absurd (omega (arith, one, zero))
      | inr elsewhere ↦
          let apart : other ≢ line = grind (arith, nat_tests, elsewhere) in
          get_or-set_other lines line other mask 0 apart ∙ are other inside (sym (bit_at_set_other w64 in_use line within other apart) ∙ none)
    ]

-- ---- a place is taken out of the mask of one line after another

-- the masks without a place, but for those of the lines that are left
abbrev pub AreTaken : ℕ → ℕ → List ℕ → List ℕ → Type 0
AreTaken place left old new = (line : ℕ) → line < LINES
    → slice_index new line ≡ (if bit_at left line == 0 then without_place place (slice_index old line) else slice_index old line)

pub none_without : (place mask : ℕ) → mask ≡ 0 → without_place place mask ≡ 0
none_without place mask none = rw (none, zero-div (2 ^ suc place), zero-mod (2 ^ place)) (omega arith)

-- the lines but for one
abbrev but : ℕ → ℕ → ℕ
but bits line = bit_and bits (bit_not w64 (1 * 2 ^ line % 2 ^ 64))

module _ (left : ℕ) (some : left ≢ 0) (fits : left < 2 ^ 64) where
  abbrev pub first_line : ℕ
  first_line = trailing_zeros w64 left

  lowest : (first_line < LINES) × (bit_at left first_line ≡ 1)
  lowest = let is = bit_at-trailing_zeros w64 left (omega arith) fits in (is.0, is.1)

  pub fewer : but left first_line < left
  fewer =
      let at_most = and_le_l left (bit_not w64 (1 * 2 ^ first_line % 2 ^ 64)) in
      let cleared = bit_at_clear_same w64 left first_line lowest.0 in
      let other : but left first_line ≢ left = λ same. let bit : bit_at left first_line ≡ 0 = rw same at cleared in omega (arith, bit, lowest.1) in
      omega (arith, at_most, other)

  module _ (place : ℕ) (old lines : List ℕ) (taken : AreTaken place left old lines) (all_lines : length lines ≡ LINES) (mask : ℕ) (is : mask ≡ without_place place (slice_index lines first_line)) where
    pub one_taken : AreTaken place (but left first_line) old (set lines first_line mask)
    one_taken line inside =
        elim (cases_Bool (line == first_line)) [
          | inl here ↦
              let same : line ≡ first_line = eqb-true line first_line here in
              let was : slice_index lines first_line ≡ slice_index old first_line = rw lowest.1 at (taken first_line lowest.0) in
              rw (same, bit_at_clear_same w64 left first_line lowest.0)
              (get_or-set_at lines first_line first_line mask 0 refl (omega (arith, all_lines, lowest.0)) ∙ is ∙ ap (without_place place) was)
          | inr elsewhere ↦
              let apart : line ≢ first_line = grind (arith, nat_tests, elsewhere) in
              rw (bit_at_clear_other w64 left first_line lowest.0 line inside apart)
              (get_or-set_other lines first_line line mask 0 apart ∙ taken line inside)
        ]

    module _ (in_use : ℕ) (are : AreInUse in_use lines) where
      pub stays_in_use : AreInUse in_use (set lines first_line mask)
      stays_in_use line inside none =
          elim (cases_Bool (line == first_line)) [
            | inl here ↦
                let same : line ≡ first_line = eqb-true line first_line here in
                let empty : slice_index lines first_line ≡ 0 = rw same at (are line inside none) in
                get_or-set_at lines first_line line mask 0 same (omega (arith, all_lines, lowest.0)) ∙ is ∙ none_without place (slice_index lines first_line) empty
            | inr elsewhere ↦
                get_or-set_other lines first_line line mask 0 (grind (arith, nat_tests, elsewhere)) ∙ are line inside none
          ]

      pub not_in_use : mask ≡ 0 → AreInUse (but in_use first_line) (set lines first_line mask)
      not_in_use gone line inside none =
          elim (cases_Bool (line == first_line)) [
            | inl here ↦
                get_or-set_at lines first_line line mask 0 (eqb-true line first_line here) (omega (arith, all_lines, lowest.0)) ∙ gone
            | inr elsewhere ↦
                let apart : line ≢ first_line = grind (arith, nat_tests, elsewhere) in
                get_or-set_other lines first_line line mask 0 apart
                ∙ are line inside (sym (bit_at_clear_other w64 in_use first_line lowest.0 line inside apart) ∙ none)
          ]

pub all_taken : (place left : ℕ) (old new : List ℕ) → AreTaken place left old new → left ≡ 0 → length old ≡ LINES → length new ≡ LINES → new ≡ map (without_place place) old
all_taken place left old new taken none old_long new_long =
    same_lists new (map (without_place place) old) (new_long ∙ sym (length-map old (without_place place) ∙ old_long))
    (λ line d inside.
    let within : line < LINES = omega (arith, inside, new_long) in
    let here : get_or new line 0 ≡ without_place place (get_or old line 0) = rw (none, bit_at-zero line) at (taken line within) in
    get_or_default_zero new line d inside ∙ here ∙ sym (get_or-map (without_place place) old line 0 d (omega (arith, within, old_long))))
