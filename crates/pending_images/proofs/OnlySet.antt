-- There is one least set, and it is the first in the order of sizes.
use Rattle.std.proofs.Common.{◌≡◌, ◌≢◌, ℕ, zero, suc, ◌+◌, ◌<◌, ◌≤◌, ◌==◌, Bool, true, false, Option, None, Some, List, ◌∷◌, map, length, refl, ap, sym, ◌∙◌, ◌↔◌, arith, inl, inr, eq-eqb, true≢false}
use Rattle.std.specs.Prelude.{nat_lt}
use Rattle.std.specs.List.{range_with_len}
use Rattle.std.specs.Ordering.{is_lt, nat_cmp}
use Rattle.std.specs.Cmp.Lexicographic.{slice_cmp}
use Rattle.std.specs.declared.cmp.Ordering.TheVariants.{Less, Greater}
use Rattle.std.proofs.lemmas.Bool.{cases_lt}
use Rattle.std.proofs.lemmas.Bool.Decides.{nat_tests}
use Rattle.lines_layout.specs.Lines.{max_lines, max_words}
use Rattle.lines_layout.specs.Shapes.{IsShape}
use Rattle.persist_buffer.specs.Memories.{is_marker, is_write_on}
use Rattle.persist_buffer.specs.Listings.{LinesBelow}
use Rattle.persist_buffer.specs.State.{Memory}
use Rattle.pending_images.specs.Candidates.{all_lines}
use Rattle.pending_images.specs.LeastCuts.{closed_set_of}
use Rattle.pending_images.specs.Images.{IsImage}
use Rattle.pending_images.specs.LeastSets.{IsLeast, IsLeastSet, IsLeaving, IsSmallestSet, markers_in, places_from, sizes_in, writes_in}
use Rattle.pending_images.proofs.LeastSetsAreFound.{is_least_set}
use Rattle.pending_images.proofs.ImagesAreCuts.{set_is_image}
use Rattle.pending_images.proofs.SetsWithinSets.{IsWithin, counts_within, same_places}

less_is_not_greater : Less ≢ Greater
less_is_not_greater e = true≢false (ap is_lt e)

first_less : (a b : ℕ) (xs ys : List ℕ) → a < b → slice_cmp nat_cmp (a ∷ xs) (b ∷ ys) ≢ Greater
first_less a b xs ys lt =
    let test : nat_lt a b ≡ true = grind (arith, nat_tests, lt) in
    let is : slice_cmp nat_cmp (a ∷ xs) (b ∷ ys) ≡ Less = rw test refl in
    λ e. less_is_not_greater (sym is ∙ e)

first_same : (a b : ℕ) (xs ys : List ℕ) → a ≡ b → slice_cmp nat_cmp xs ys ≢ Greater → slice_cmp nat_cmp (a ∷ xs) (b ∷ ys) ≢ Greater
first_same a b xs ys same rest =
    let le : b ≤ a = omega (arith, same) in
    let test : nat_lt a b ≡ false = grind (arith, nat_tests, le) in
    let on : (a == b) ≡ true = eq-eqb a b same in
    let is : slice_cmp nat_cmp (a ∷ xs) (b ∷ ys) ≡ slice_cmp nat_cmp xs ys = rw (test, on) refl in
    λ e. rest (sym is ∙ e)

-- lists of which each number is at most the other's
at_most : (f g : ℕ → ℕ) (n start : ℕ) → ((line : ℕ) → f line ≤ g line) → slice_cmp nat_cmp (map f (range_with_len start n)) (map g (range_with_len start n)) ≢ Greater
at_most f g zero start h = λ e. absurd (cc)
at_most f g (suc n) start h =
    let le = h start in
    elim (cases_lt (f start) (g start)) [
      | inl lt ↦ first_less (f start) (g start) (map f (range_with_len (start + 1) n)) (map g (range_with_len (start + 1) n)) lt
      | inr ge ↦ first_same (f start) (g start) (map f (range_with_len (start + 1) n)) (map g (range_with_len (start + 1) n)) (omega (arith, le, ge)) (at_most f g n (start + 1) h)
    ]

-- the least set is the first in the order of sizes
pub least_is_first : (shape : List ℕ) (m : Memory) (image : List ℕ) (flags other : List Bool) → IsLeast shape m image flags → IsLeaving shape m image other
    → slice_cmp nat_cmp (sizes_in m.pending flags) (sizes_in m.pending other) ≢ Greater
least_is_first shape m image flags other least l =
    let within : IsWithin flags other = λ place held. least.least other place l held in
    let few = counts_within is_marker m.pending flags other within in
    let f : ℕ → ℕ = λ line. writes_in line m.pending flags in
    let g : ℕ → ℕ = λ line. writes_in line m.pending other in
    let lines = range_with_len 0 all_lines in
    elim (cases_lt (markers_in m.pending flags) (markers_in m.pending other)) [
      | inl lt ↦ first_less (markers_in m.pending flags) (markers_in m.pending other) (map f lines) (map g lines) lt
      | inr ge ↦
          let same : markers_in m.pending flags ≡ markers_in m.pending other = omega (arith, few, ge) in
          first_same (markers_in m.pending flags) (markers_in m.pending other) (map f lines) (map g lines) same
          (at_most f g all_lines 0 (λ line. counts_within (is_write_on line) m.pending flags other within))
    ]

pub least_is_smallest : (shape : List ℕ) (m : Memory) (image : List ℕ) (found : Option (List ℕ)) → IsLeastSet shape m image found → IsSmallestSet shape m image found
least_is_smallest shape m image None is = tt
least_is_smallest shape m image (Some places) (flags, least, is) =
    (flags, record { leaving = least.leaving; smallest = λ other l. least_is_first shape m image flags other least l }, is)

two_least : (shape : List ℕ) (m : Memory) (image : List ℕ) (a b : List Bool) → IsLeast shape m image a → IsLeast shape m image b → places_from 0 a ≡ places_from 0 b
two_least shape m image a b p q = same_places 0 a b (λ place held. p.least b place q.leaving held) (λ place held. q.least a place p.leaving held)

one_answer : (shape : List ℕ) (m : Memory) (image : List ℕ) (a b : Option (List ℕ)) → IsLeastSet shape m image a → IsLeastSet shape m image b → a ≡ b
one_answer shape m image None None p q = refl
one_answer shape m image None (Some places) p (flags, least, is) = absurd (p (set_is_image shape m image flags least.leaving))
one_answer shape m image (Some places) None (flags, least, is) q = absurd (q (set_is_image shape m image flags least.leaving))
one_answer shape m image (Some places) (Some others) (flags, least, is) (flags', least', is') =
    ap (λ (xs : List ℕ). Some xs) (is ∙ two_least shape m image flags flags' least least' ∙ sym is')

pub only_set : (shape : List ℕ) (m : Memory) (image : List ℕ) (found : Option (List ℕ)) → IsShape shape → LinesBelow max_lines m.pending → length m.persisted ≡ max_words
    → IsLeastSet shape m image found → found ≡ closed_set_of shape m image
only_set shape m image found is_shape below size is = one_answer shape m image found (closed_set_of shape m image) is (is_least_set shape image m is_shape below size)

there_is_one : (shape : List ℕ) (m : Memory) (image : List ℕ) (found : Option (List ℕ)) → IsLeastSet shape m image found → IsImage shape m image → (flags : List Bool) × IsLeast shape m image flags
there_is_one shape m image None is image_is = absurd (is image_is)
there_is_one shape m image (Some places) (flags, least, is) image_is = (flags, least)

pub least_there : (shape : List ℕ) (m : Memory) (image : List ℕ) → IsShape shape → LinesBelow max_lines m.pending → length m.persisted ≡ max_words
    → IsImage shape m image ↔ ((flags : List Bool) × IsLeast shape m image flags)
least_there shape m image is_shape below size = (
  (λ h. there_is_one shape m image (closed_set_of shape m image) (is_least_set shape image m is_shape below size) h),
  (λ h. set_is_image shape m image h.0 h.1.leaving),
)
