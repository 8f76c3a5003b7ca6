-- The least image that makes a condition false, of those that narrowed memories leave, is the least of the state.
use Rattle.std.proofs.Common.{◌≡◌, ◌⊎◌, ℕ, zero, suc, ◌+◌, ◌*◌, ◌<◌, ◌≤◌, ◌==◌, inl, inr, Bool, true, false, not, Option, Some, None, List, [], ◌∷◌, ◌++◌, length, map, refl, sym, ap, ap₂, subst, ◌∙◌, arith, true≢false, All}
use Rattle.std.proofs.lemmas.Bool.{cases_Bool, cases_lt, eqb-true, eq-eqb}
use Rattle.std.proofs.lemmas.List.{length-map, map-append}
use Rattle.std.proofs.lemmas.List.Elements.{All-head, All-tail}
use Rattle.std.proofs.lemmas.List.FromFn.{length-map-range_with_len}
use Rattle.std.specs.Prelude.{slice_index, if◌then◌else◌}
use Rattle.std.specs.List.{range_with_len}
use Rattle.std.specs.Option.{option_map_or}
use Rattle.std.specs.declared.cmp.Ordering.{Ordering}
use Rattle.std.specs.declared.cmp.Ordering.TheVariants.{Less, Equal, Greater}
use Rattle.std.specs.Ordering.{is_eq, is_lt, nat_cmp, ordering_reverse}
use Rattle.std.specs.Cmp.Lexicographic.{nat_list_cmp_total, same_text, slice_cmp, texts_ties}
use Rattle.lines_layout.specs.Lines.{has_word, line_of, line_words}
use Rattle.lines_layout.specs.Shapes.{IsShape, words_from, words_of}
use Rattle.persist_buffer.specs.Listings.{LinesBelow}
use Rattle.persist_buffer.specs.State.{Memory}
use Rattle.pending_images.specs.Candidates.{all_lines, markers}
use Rattle.pending_images.specs.Cuts.{IsCut, image_of}
use Rattle.pending_images.specs.Images.{value_of}
use Rattle.pending_images.proofs.ImagesAreCuts.{cut_law}
use Rattle.pending_images.proofs.LeastSetsAreFound.{all_is}
use Rattle.machine.specs.State.{State}
use Rattle.conditions.specs.declared.cond.Comparison.TheVariants as compares
use Rattle.conditions.specs.declared.cond.Operand.{Operand}
use Rattle.conditions.specs.declared.cond.Operand.TheVariants.{Persisted, Coherent, Register}
use Rattle.conditions.specs.Formulas.{Formula, Test}
use Rattle.conditions.specs.Truth.{asks_line, is_persisted}
use Rattle.conditions.proofs.SameValues.{lines_decide}
use Rattle.images.specs.Images.{IsImage, image_at}
use Rattle.images.specs.Firsts.{IsLeastImage}
use Rattle.images.specs.Truth.{holds_on, value_on}
use Rattle.images.proofs.ImagesKeepCoherentValues.{images_keep}
use Rattle.explore.specs.Asked.{asked_by}
use Rattle.explore.specs.Narrow.{IsLeast, IsLeftAt, IsLeftBelow, IsNarrow, lesser, line_values, value_after}
use Rattle.explore.proofs.ImageOrder.{Upto, both_parts, first_numbers, from_answer, itself, least_or_same, then_upto, upto}
use Rattle.explore.proofs.LaterMemories.{IsWhole}
use Rattle.explore.proofs.NarrowImages.{image_same, line_least, line_same, narrow_whole, shrunk, shrunk_cut, shrunk_range, wide, wide_cut, word_beyond, word_of_cut}

-- ---- conditions

-- a state with these persisted values and no more
abbrev bare : List ℕ → List ℕ → State
bare shape xs = record { turns = 0; crashes = 0; shape = shape; processors = []; memory = record { pending = []; persisted = xs } }

options_tell : (o p : Option ℕ) → ((n : ℕ) → option_map_or (λ (v : ℕ). v == n) o false ≡ option_map_or (λ (v : ℕ). v == n) p false) → o ≡ p
options_tell None None same = refl
options_tell (Some a) None same = absurd (true≢false (sym (eq-eqb a a refl) ∙ same a))
options_tell None (Some b) same = absurd (true≢false (sym (same b ∙ eq-eqb b b refl)))
options_tell (Some a) (Some b) same = ap (λ (n : ℕ). Some n) (eqb-true a b (same b ∙ eq-eqb b b refl))

value_shown : (shape xs : List ℕ) (word : ℕ) → value_of shape (image_at shape xs) word ≡ (if has_word shape word then Some (slice_index xs word) else None)
value_shown shape xs word =
    options_tell (value_of shape (image_at shape xs) word) (if has_word shape word then Some (slice_index xs word) else None)
    (λ n. images_keep (bare shape xs) xs (Test (Persisted word) compares.Equal n) (0, record { pending = []; persisted = xs }, refl, refl))

module _ (s : State) (xs ys : List ℕ) where
  abbrev one : Operand → Option ℕ
  one = value_on s (image_at s.shape xs)

  abbrev two : Operand → Option ℕ
  two = value_on s (image_at s.shape ys)

  -- the values of a condition's words are the same
  abbrev Agree : Formula → Type 0
  Agree f = (word : ℕ) → asks_line (line_of word) f ≡ true → slice_index xs word ≡ slice_index ys word

  pub agree_holds : (f : Formula) → Agree f → holds_on s f (image_at s.shape xs) ≡ holds_on s f (image_at s.shape ys)
  agree_holds f agree = lines_decide one two others f by_lines
    where
      others : (operand : Operand) → is_persisted operand ≡ false → one operand ≡ two operand
      others (Persisted word) is = absurd (true≢false is)
      others (Coherent word) is = refl
      others (Register p x) is = refl

      by_lines : (word : ℕ) → asks_line (line_of word) f ≡ true → one (Persisted word) ≡ two (Persisted word)
      by_lines word on =
          value_shown s.shape xs word ∙ ap (λ (n : ℕ). if has_word s.shape word then Some n else None) (agree word on) ∙ sym (value_shown s.shape ys word)

-- ---- images line by line

map_same : (f g : ℕ → ℕ) (start n : ℕ) → ((i : ℕ) → start ≤ i → i < start + n → f i ≡ g i) → map f (range_with_len start n) ≡ map g (range_with_len start n)
map_same f g start zero same = refl
map_same f g start (suc n) same =
    ap₂ (λ (x : ℕ) (l : List ℕ). x ∷ l) (same start (omega arith) (omega arith)) (map_same f g (start + 1) n (λ i from to. same i (omega (arith, from)) (omega (arith, to))))

lines_upto : (xs ys shape : List ℕ) (g : ℕ) → All (λ n. n ≤ line_words) shape
    → ((line : ℕ) → g ≤ line → line < g + length shape → Upto (map (slice_index xs) (range_with_len (8 * line) 8)) (map (slice_index ys) (range_with_len (8 * line) 8)))
    → Upto (map (slice_index xs) (words_from g shape)) (map (slice_index ys) (words_from g shape))
lines_upto xs ys [] g few each = refl
lines_upto xs ys (count ∷ shape) g few each =
    let here = first_numbers (slice_index xs) (slice_index ys) (8 * g) count 8 (All-head (λ n. n ≤ line_words) count shape few) (each g (omega arith) (omega arith)) in
    let rest = lines_upto xs ys shape (g + 1) (All-tail (λ n. n ≤ line_words) count shape few) (λ line from to. each line (omega (arith, from)) (omega (arith, to))) in
    let both = both_parts (map (slice_index xs) (range_with_len (8 * g) count)) (map (slice_index ys) (range_with_len (8 * g) count)) (map (slice_index xs) (words_from (g + 1) shape)) (map (slice_index ys) (words_from (g + 1) shape)) here rest in
    subst (λ (l : List ℕ). Upto l (map (slice_index ys) (words_from g (count ∷ shape)))) (sym (map-append (slice_index xs) (range_with_len (8 * g) count) (words_from (g + 1) shape)))
    (subst (λ (l : List ℕ). Upto (map (slice_index xs) (range_with_len (8 * g) count) ++ map (slice_index xs) (words_from (g + 1) shape)) l) (sym (map-append (slice_index ys) (range_with_len (8 * g) count) (words_from (g + 1) shape))) both)

-- the values of a line that a cut leaves
cut_values : (m : Memory) → IsWhole m → (count : ℕ → ℕ) (line : ℕ) → line < 64 → map (slice_index (image_of all_lines count m.pending m.persisted)) (range_with_len (8 * line) 8) ≡ line_values m line (count line)
cut_values m whole count line inside =
    map_same (slice_index (image_of all_lines count m.pending m.persisted)) (value_after m (count line)) (8 * line) 8 (λ word from to.
    let on : line_of word ≡ line = omega (arith, from, to) in
    let all = all_is in
    word_of_cut m whole count all_lines word (omega (arith, on, inside, all)) ∙ ap (λ (l : ℕ). value_after m (count l) word) on)

-- ---- where k markers went

module _ (f : Formula) (s : State) (k : ℕ) (whole : IsWhole s.memory) (shape : IsShape s.shape) (within : k ≤ markers s.memory.pending) (narrow : Memory) (is : IsNarrow (asked_by f) s.memory k narrow) where
  abbrev test : List ℕ → Bool
  test image = not (holds_on s f image)

  abbrev narrowed : State
  narrowed = record s { memory = narrow }

  abbrev values_of : (ℕ → ℕ) → List ℕ
  values_of count = image_of all_lines count s.memory.pending s.memory.persisted

  narrow_lines : LinesBelow all_lines narrow.pending
  narrow_lines = subst (λ (n : ℕ). LinesBelow n narrow.pending) (sym all_is) (narrow_whole (asked_by f) s.memory k whole narrow is).lines

  narrow_is_left : (image : List ℕ) → IsImage narrowed image → IsLeftAt s k image
  narrow_is_left image (persisted, reached, shown) =
      let (j, c, cut, same) = (cut_law all_lines narrow persisted narrow_lines).0 reached in
      let (wide_is, few) = wide_cut (asked_by f) s.memory k whole narrow is within j c cut in
      (wide (asked_by f) s.memory k whole narrow is c, wide_is, shown ∙ ap (image_at s.shape) (same ∙ image_same (asked_by f) s.memory k whole narrow is c few))

  same_words : (one two : ℕ → ℕ) (word : ℕ) → one (line_of word) ≡ two (line_of word) → slice_index (values_of one) word ≡ slice_index (values_of two) word
  same_words one two word same =
      elim (cases_lt (line_of word) all_lines) [
        | inl inside ↦ word_of_cut s.memory whole one all_lines word inside ∙ ap (λ (n : ℕ). value_after s.memory n word) same ∙ sym (word_of_cut s.memory whole two all_lines word inside)
        | inr far ↦ word_beyond s.memory whole one all_lines word far ∙ sym (word_beyond s.memory whole two all_lines word far)
      ]

  module _ (count : ℕ → ℕ) (cut : IsCut k count s.memory.pending) where
    abbrev new : ℕ → ℕ
    new = wide (asked_by f) s.memory k whole narrow is (shrunk (asked_by f) s.memory k whole narrow is count)

    line_upto : (line : ℕ) → line < 64 → Upto (map (slice_index (values_of new)) (range_with_len (8 * line) 8)) (map (slice_index (values_of count)) (range_with_len (8 * line) 8))
    line_upto line inside =
        subst (λ (l : List ℕ). Upto l (map (slice_index (values_of count)) (range_with_len (8 * line) 8))) (sym (cut_values s.memory whole new line inside))
        (subst (λ (l : List ℕ). Upto (line_values s.memory line (new line)) l) (sym (cut_values s.memory whole count line inside)) (elim (cases_Bool (asked_by f line)) [
          | inl on ↦ itself (line_values s.memory line (new line)) (line_values s.memory line (count line)) (ap (line_values s.memory line) (line_same (asked_by f) s.memory k whole narrow is count cut line on))
          | inr off ↦
              upto (line_values s.memory line (new line)) (line_values s.memory line (count line))
              (length-map-range_with_len (value_after s.memory (new line)) (8 * line) 8 ∙ sym (length-map-range_with_len (value_after s.memory (count line)) (8 * line) 8))
              (line_least (asked_by f) s.memory k whole narrow is count cut line off)
        ]))

    all_upto : Upto (image_at s.shape (values_of new)) (image_at s.shape (values_of count))
    all_upto = lines_upto (values_of new) (values_of count) s.shape 0 shape.words (λ line from to. let few = shape.lines in line_upto line (omega (arith, to, few)))

    agrees : holds_on s f (image_at s.shape (values_of new)) ≡ holds_on s f (image_at s.shape (values_of count))
    agrees = agree_holds s (values_of new) (values_of count) f (λ word on. same_words new count word (line_same (asked_by f) s.memory k whole narrow is count cut (line_of word) on))

  -- each image that makes the condition false has one below it, or is one, that a narrowed memory leaves
  left_is_narrow : (image : List ℕ) → IsLeftAt s k image → test image ≡ true → (other : List ℕ) × IsImage narrowed other × (test other ≡ true) × Upto other image
  left_is_narrow image (count, cut, shown) fails =
      let c = shrunk (asked_by f) s.memory k whole narrow is count in
      let few = shrunk_range (asked_by f) s.memory k whole narrow is count cut in
      let small = image_of all_lines c narrow.pending narrow.persisted in
      let same : small ≡ values_of (new count cut) = image_same (asked_by f) s.memory k whole narrow is c few in (
        image_at s.shape small,
        (small, (cut_law all_lines narrow small narrow_lines).1 (0, c, shrunk_cut (asked_by f) s.memory k whole narrow is count cut, refl), refl),
        ap (λ (xs : List ℕ). test (image_at s.shape xs)) same ∙ ap (λ (b : Bool). not b) (agrees count cut) ∙ sym (ap test shown) ∙ fails,
        subst (λ (xs : List ℕ). Upto (image_at s.shape xs) image) (sym same) (subst (Upto (image_at s.shape (values_of (new count cut)))) (sym shown) (all_upto count cut)),
      )

  pub least_at : (found : Option (List ℕ)) → IsLeastImage narrowed test found → IsLeast (IsLeftAt s k) test found
  least_at None none = λ image at.
      elim (cases_Bool (test image)) [
        | inl fails ↦ let (other, is_image, on, below) = left_is_narrow image at fails in absurd (true≢false (sym on ∙ none other is_image))
        | inr holds ↦ holds
      ]
  least_at (Some y) (is_image, fails, first) = (
    narrow_is_left y is_image,
    fails,
    λ image at on.
        let (other, is_other, other_fails, below) = left_is_narrow image at on in
        let long : length y ≡ length other = long_as y other is_image is_other in
        least_or_same y image (then_upto y other image (from_answer y other long (first other is_other other_fails)) below),
  )
    where
      long_as : (a b : List ℕ) → IsImage narrowed a → IsImage narrowed b → length a ≡ length b
      long_as a b (p, reached, shown) (q, reached', shown') =
          ap length shown ∙ length-map (words_of s.shape) (slice_index p) ∙ sym (length-map (words_of s.shape) (slice_index q)) ∙ ap length (sym shown')

-- ---- over all numbers of markers

tied_is : (x y : List ℕ) → slice_cmp nat_cmp x y ≡ Equal → x ≡ y
tied_is x y tied = same_text x y (sym (texts_ties x y ∙ ap is_eq tied))

module _ (A B C : List ℕ → Type 0) (test : List ℕ → Bool) (first_in : (image : List ℕ) → A image → C image) (second_in : (image : List ℕ) → B image → C image) (either : (image : List ℕ) → C image → A image ⊎ B image) where
  after : (x y z : List ℕ) → slice_cmp nat_cmp x y ≡ Less → (y ≡ z) ⊎ (slice_cmp nat_cmp y z ≡ Less) → slice_cmp nat_cmp x z ≡ Less
  after x y z less (inl same) = subst (λ (w : List ℕ). slice_cmp nat_cmp x w ≡ Less) same less
  after x y z less (inr more) = nat_list_cmp_total.trans x y z less more

  not_less : (o : Ordering) (x y : List ℕ) → slice_cmp nat_cmp y x ≡ o → is_lt o ≡ false → (x ≡ y) ⊎ (slice_cmp nat_cmp x y ≡ Less)
  not_less Less x y is off = absurd (true≢false off)
  not_less Equal x y is off = inl (sym (tied_is y x is))
  not_less Greater x y is off = inr (nat_list_cmp_total.antisymm x y ∙ ap ordering_reverse is)

  is_less : (o : Ordering) → is_lt o ≡ true → o ≡ Less
  is_less Less on = refl
  is_less Equal on = absurd (true≢false (sym on))
  is_less Greater on = absurd (true≢false (sym on))

  from_there : (x y z : List ℕ) → (x ≡ y) ⊎ (slice_cmp nat_cmp x y ≡ Less) → (y ≡ z) ⊎ (slice_cmp nat_cmp y z ≡ Less) → (x ≡ z) ⊎ (slice_cmp nat_cmp x z ≡ Less)
  from_there x y z (inl same) h = subst (λ (w : List ℕ). (w ≡ z) ⊎ (slice_cmp nat_cmp w z ≡ Less)) (sym same) h
  from_there x y z (inr less) h = inr (after x y z less h)

  by_order : (b : Bool) (one other : List ℕ) → is_lt (slice_cmp nat_cmp other one) ≡ b → IsLeast A test (Some one) → IsLeast B test (Some other) → IsLeast C test (if b then Some other else Some one)
  by_order true one other is (in_a, on_a, first_a) (in_b, on_b, first_b) = (
    second_in other in_b,
    on_b,
    λ image there on. elim (either image there) [
      | inl a ↦ inr (after other one image (is_less (slice_cmp nat_cmp other one) is) (first_a image a on))
      | inr b ↦ first_b image b on
    ],
  )
  by_order false one other is (in_a, on_a, first_a) (in_b, on_b, first_b) = (
    first_in one in_a,
    on_a,
    λ image there on. elim (either image there) [
      | inl a ↦ first_a image a on
      | inr b ↦ from_there one other image (not_less (slice_cmp nat_cmp other one) one other refl is) (first_b image b on)
    ],
  )

  pub least_of_both : (one other : Option (List ℕ)) → IsLeast A test one → IsLeast B test other → IsLeast C test (lesser one other)
  least_of_both None None a b = λ image there. elim (either image there) [ inl in_a ↦ a image in_a | inr in_b ↦ b image in_b ]
  least_of_both None (Some other) a (in_b, on_b, first_b) = (
    second_in other in_b,
    on_b,
    λ image there on. elim (either image there) [ inl in_a ↦ absurd (true≢false (sym on ∙ a image in_a)) | inr in_b ↦ first_b image in_b on ],
  )
  least_of_both (Some one) None (in_a, on_a, first_a) b = (
    first_in one in_a,
    on_a,
    λ image there on. elim (either image there) [ inl in_a ↦ first_a image in_a on | inr in_b ↦ absurd (true≢false (sym on ∙ b image in_b)) ],
  )
  least_of_both (Some one) (Some other) a b = by_order (is_lt (slice_cmp nat_cmp other one)) one other refl a b

pub least_first : (s : State) (test : List ℕ → Bool) (found : Option (List ℕ)) → IsLeast (IsLeftAt s 0) test found → IsLeast (IsLeftBelow s 1) test found
least_first s test None none = λ image (k, less, at). none image (subst (λ (n : ℕ). IsLeftAt s n image) (let none : k ≡ 0 = omega (arith, less) in none) at)
least_first s test (Some least) (here, on, first) =
    ((0, omega arith, here), on, λ image (k, less, at). first image (subst (λ (n : ℕ). IsLeftAt s n image) (let none : k ≡ 0 = omega (arith, less) in none) at))

pub least_next : (s : State) (test : List ℕ → Bool) (n : ℕ) (one other : Option (List ℕ)) → IsLeast (IsLeftBelow s n) test one → IsLeast (IsLeftAt s n) test other → IsLeast (IsLeftBelow s (n + 1)) test (lesser one other)
least_next s test n one other a b =
    least_of_both (IsLeftBelow s n) (IsLeftAt s n) (IsLeftBelow s (n + 1)) test
    (λ image (k, less, at). (k, omega (arith, less), at))
    (λ image at. (n, omega arith, at))
    (λ image (k, less, at). elim (cases_lt k n) [ inl below ↦ inl (k, below, at) | inr above ↦ inr (subst (λ (i : ℕ). IsLeftAt s i image) (let same : k ≡ n = omega (arith, less, above) in same) at) ])
    one other a b

pub least_of_state : (s : State) (test : List ℕ → Bool) (found : Option (List ℕ)) → LinesBelow 64 s.memory.pending → IsLeast (IsLeftBelow s (markers s.memory.pending + 1)) test found → IsLeastImage s test found
least_of_state s test found below = by found
  where
    lines : LinesBelow all_lines s.memory.pending
    lines = subst (λ (n : ℕ). LinesBelow n s.memory.pending) (sym all_is) below

    is_left : (image : List ℕ) → IsImage s image → IsLeftBelow s (markers s.memory.pending + 1) image
    is_left image (persisted, reached, shown) =
        let (k, count, cut, same) = (cut_law all_lines s.memory persisted lines).0 reached in
        let few = cut.few in
        (k, omega (arith, few), (count, cut, shown ∙ ap (image_at s.shape) same))

    is_image : (image : List ℕ) → IsLeftBelow s (markers s.memory.pending + 1) image → IsImage s image
    is_image image (k, less, (count, cut, shown)) =
        let persisted = image_of all_lines count s.memory.pending s.memory.persisted in
        (persisted, (cut_law all_lines s.memory persisted lines).1 (k, count, cut, refl), shown)

    by : (found : Option (List ℕ)) → IsLeast (IsLeftBelow s (markers s.memory.pending + 1)) test found → IsLeastImage s test found
    by None none = λ image is. none image (is_left image is)
    by (Some least) (there, on, first) = (is_image least there, on, λ image is fails. first image (is_left image is) fails)
