-- The operations that masks stand for.
use Rattle.std.proofs.Common.{◌≡◌, ℕ, zero, suc, ◌<◌, Bool, true, false, cond, ltb, Option, Some, None, List, [], length, get_or, map, replicate, subst, refl, sym, ◌∙◌, ap, arith}
use Rattle.std.specs.Prelude.{position, ◌==◌}
use Rattle.std.specs.List.{position_or_len}
use Rattle.std.proofs.lemmas.Bool.Decides.{nat_tests}
use Rattle.std.proofs.lemmas.Bool.{eq-eqb}
use Rattle.std.proofs.lemmas.List.{get_or-map, same_lists, get_or-replicate}
use Rattle.std.proofs.lemmas.List.FromFn.{get_or-map-range_with_len, length-map-range_with_len}
use Rattle.std.proofs.lemmas.List.Sums.{position_or_len_is}
use Rattle.std.proofs.lemmas.Simd.{bit_mask_l}
use Rattle.order_table.specs.declared.Kind.{Kind}
use Rattle.order_table.specs.declared.Kind.TheVariants.{Read, Write, Rmw, Mfence, Sfence, FlushOpt, Flush}
use Rattle.order_table.specs.declared.masks.TheConstants.{KINDS, LINES}
use Rattle.order_table.specs.Operations.{Operation, IsLine, is_one_line}
use Rattle.order_table.specs.Places.{number_of, kind_numbered, is_of, is_on, places_of, has_place, operation_at, operations_in, AreMasks, AreInUse}

kind_number : (kind : Kind) → kind_numbered (number_of kind) ≡ kind
kind_number Read = refl
kind_number Write = refl
kind_number Rmw = refl
kind_number Mfence = refl
kind_number Sfence = refl
kind_number FlushOpt = refl
kind_number Flush = refl

pub number_below : (kind : Kind) → number_of kind < KINDS
number_below Read = omega arith
number_below Write = omega arith
number_below Rmw = omega arith
number_below Mfence = omega arith
number_below Sfence = omega arith
number_below FlushOpt = omega arith
number_below Flush = omega arith

number_kind : (k : ℕ) → k < KINDS → number_of (kind_numbered k) ≡ k
number_kind zero h = refl
number_kind (suc zero) h = refl
number_kind (suc (suc zero)) h = refl
number_kind (suc (suc (suc zero))) h = refl
number_kind (suc (suc (suc (suc zero)))) h = refl
number_kind (suc (suc (suc (suc (suc zero))))) h = refl
number_kind (suc (suc (suc (suc (suc (suc zero)))))) h = refl
number_kind (suc (suc (suc (suc (suc (suc (suc k))))))) h = absurd (omega arith)

one_if_is : (b : Bool) → (cond b 1 0 == 1) ≡ b
one_if_is true = refl
one_if_is false = refl

module _ (operations : List Operation) (place : ℕ) (d : Operation) (there : place < length operations) where
  pub has_place_of : (test : Operation → Bool) → has_place place (places_of test operations) ≡ test (get_or operations place d)
  has_place_of test =
      ap (λ (n : ℕ). n == 1) (bit_mask_l (map test operations) place)
      ∙ one_if_is (get_or (map test operations) place false)
      ∙ get_or-map test operations place d false there

module _ (operations : List Operation) (kinds lines : List ℕ) (are : AreMasks operations kinds lines) (all_kinds : length kinds ≡ KINDS) (all_lines : length lines ≡ LINES)
    (place : ℕ) (d : Operation) (there : place < length operations) where
  abbrev operation : Operation
  operation = get_or operations place d

  kind_mask : (kind : Kind) → has_place place (get_or kinds (number_of kind) 0) ≡ (number_of operation.0 == number_of kind)
  kind_mask kind = ap (has_place place) (are.of_kinds kind) ∙ has_place_of operations place d there (is_of kind)

  line_mask : (line : ℕ) → line < LINES → has_place place (get_or lines line 0) ≡ is_one_line operation.1 (Some line)
  line_mask line within = ap (has_place place) (are.of_lines line within) ∙ has_place_of operations place d there (is_on line)

  kind_found : position_or_len (has_place place) kinds ≡ number_of operation.0
  kind_found =
      let below = number_below operation.0 in
      position_or_len_is (has_place place) kinds (number_of operation.0) 0 (omega (arith, below, all_kinds))
      (λ k before. ap (λ (n : ℕ). has_place place (get_or kinds n 0)) (sym (number_kind k (omega (arith, below))))
      ∙ kind_mask (kind_numbered k)
      ∙ ap (λ (n : ℕ). number_of operation.0 == n) (number_kind k (omega (arith, below)))
      ∙ grind (arith, nat_tests, before))
      (λ inside. kind_mask operation.0 ∙ eq-eqb (number_of operation.0) (number_of operation.0) refl)

  -- the line, by cases on it
  line_from : (named : Option ℕ) → IsLine named → ((line : ℕ) → line < LINES → has_place place (get_or lines line 0) ≡ is_one_line named (Some line))
      → position (has_place place) lines ≡ named
  line_from None is masks =
      let first : position_or_len (has_place place) lines ≡ length lines =
      position_or_len_is (has_place place) lines (length lines) 0 (omega arith)
      (λ k before. masks k (omega (arith, all_lines)))
      (λ inside. absurd (omega arith)) in
      let past : ltb (length lines) (length lines) ≡ false = grind (arith, nat_tests) in
      rw (first, past) refl
  line_from (Some line) is masks =
      let first : position_or_len (has_place place) lines ≡ line =
      position_or_len_is (has_place place) lines line 0 (omega (arith, all_lines, is))
      (λ k before. masks k (omega (arith, is)) ∙ grind (arith, nat_tests, before))
      (λ inside. masks line is ∙ eq-eqb line line refl) in
      let within : ltb line (length lines) ≡ true = grind (arith, nat_tests, all_lines, is) in
      rw (first, within) refl

  read_at : operation_at kinds lines place ≡ operation
  read_at =
      let kind : kind_numbered (position_or_len (has_place place) kinds) ≡ operation.0 = ap kind_numbered kind_found ∙ kind_number operation.0 in
      let line : position (has_place place) lines ≡ operation.1 = line_from operation.1 (are.named place d there) line_mask in
      λ i. (kind i, line i)

-- masks of a list of operations stand for that list
pub decoded : (operations : List Operation) (kinds lines : List ℕ) (len : ℕ) → AreMasks operations kinds lines → length kinds ≡ KINDS → length lines ≡ LINES
    → length operations ≡ len → operations_in kinds lines len ≡ operations
decoded operations kinds lines len are all_kinds all_lines whole =
    let long : length (operations_in kinds lines len) ≡ len = length-map-range_with_len (operation_at kinds lines) 0 len in
    same_lists (operations_in kinds lines len) operations (long ∙ sym whole)
    (λ k d within. get_or-map-range_with_len (operation_at kinds lines) 0 len k k d (omega (arith, long)) (omega arith)
    ∙ read_at operations kinds lines are all_kinds all_lines k d (omega (arith, long, whole)))

-- ---- no operations

pub empty_masks : AreMasks [] (replicate KINDS 0) (replicate LINES 0)
empty_masks = record {
  of_kinds = λ kind. get_or-replicate KINDS (number_of kind) 0 0 (number_below kind);
  of_lines = λ line within. get_or-replicate LINES line 0 0 within;
  named = λ place d there. absurd (omega arith);
}

pub none_in_use : AreInUse 0 (replicate LINES 0)
none_in_use line within none = get_or-replicate LINES line 0 0 within

-- ---- masks that stand for their operations, as the type keeps them

abbrev pub Stand : List ℕ → List ℕ → ℕ → Type 0
Stand kinds lines len = AreMasks (operations_in kinds lines len) kinds lines

pub length_decoded : (kinds lines : List ℕ) (len : ℕ) → length (operations_in kinds lines len) ≡ len
length_decoded kinds lines len = length-map-range_with_len (operation_at kinds lines) 0 len

pub stand : (operations : List Operation) (kinds lines : List ℕ) (len : ℕ) → AreMasks operations kinds lines → length kinds ≡ KINDS → length lines ≡ LINES
    → length operations ≡ len → Stand kinds lines len
stand operations kinds lines len are all_kinds all_lines whole =
    subst (λ (xs : List Operation). AreMasks xs kinds lines) (sym (decoded operations kinds lines len are all_kinds all_lines whole)) are

pub counted : (kinds lines : List ℕ) (len : ℕ) (now : List Operation) → operations_in kinds lines len ≡ now → length now ≡ len
counted kinds lines len now view = ap (λ (xs : List Operation). length xs) (sym view) ∙ length_decoded kinds lines len
