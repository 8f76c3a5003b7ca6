-- What narrowed memories leave, and that the least image that makes a condition false is among it.
use Rattle.std.proofs.Common.{◌≡◌, ◌≢◌, ℕ, zero, suc, ◌+◌, ◌-◌, ◌<◌, ◌≤◌, ◌==◌, inl, inr, Bool, true, false, Option, Some, None, List, [], ◌∷◌, ◌++◌, length, take, drop, take-add, take-take, length-drop, length-take-le, count_by, unwrap_or, refl, sym, ap, ap₂, subst, ◌∙◌, arith, true≢false}
use Rattle.std.proofs.lemmas.Bool.{cases_Bool, cases_lt, eqb-true, eq-eqb}
use Rattle.std.proofs.lemmas.List.{get_or_past}
use Rattle.std.proofs.lemmas.List.Sums.{length-filter}
use Rattle.std.specs.Ordering.{nat_cmp}
use Rattle.std.specs.Cmp.Lexicographic.{slice_cmp}
use Rattle.std.specs.declared.cmp.Ordering.TheVariants.{Greater}
use Rattle.std.proofs.lemmas.List.Elements.{filter-append}
use Rattle.std.proofs.lemmas.Grind.{same_number_lists}
use Rattle.std.specs.Prelude.{slice_index, slice_range, if◌then◌else◌}
use Rattle.std.specs.Option.{option_or}
use Rattle.lines_layout.specs.Lines.{line_of}
use Rattle.outcomes.specs.Lists.{newest}
use Rattle.persist_buffer.specs.declared.entry.PendingEntry.{PendingEntry}
use Rattle.persist_buffer.specs.declared.entry.PendingEntry.TheVariants.{Write, Marker}
use Rattle.persist_buffer.specs.Listings.{LinesBelow, before_marker, writes_on}
use Rattle.persist_buffer.specs.Memories.{is_write_on, value_to}
use Rattle.persist_buffer.specs.State.{Memory}
use Rattle.pending_images.specs.Candidates.{all_lines, before, low, markers}
use Rattle.pending_images.specs.Cuts.{IsCut, image_of}
use Rattle.pending_images.proofs.CountsBeforeMarkers.{asked_low, before_none, before_within, low_asked, low_within}
use Rattle.pending_images.proofs.LeastSetsAreFound.{all_is}
use Rattle.explore.specs.Narrow.{IsChosen, IsLeastCount, IsNarrow, line_values, open_writes, opens, value_after}
use Rattle.explore.proofs.EndsAreNodes.{written_long, written_shows}
use Rattle.explore.proofs.ImageOrder.{not_above}
use Rattle.explore.proofs.LaterMemories.{IsWhole}

-- ---- entries of one line

writes_lines : (line : ℕ) (es : List PendingEntry) → LinesBelow 64 es → LinesBelow 64 (writes_on line es)
writes_lines line [] below = tt
writes_lines line (Write word value ∷ es) below = by (line_of word == line) (writes_lines line es below.1)
  where
    by : (b : Bool) → LinesBelow 64 (writes_on line es) → LinesBelow 64 (if b then Write word value ∷ writes_on line es else writes_on line es)
    by true rest = (below.0, rest)
    by false rest = rest
writes_lines line (Marker other ∷ es) below = writes_lines line es below

take_lines : (n : ℕ) (es : List PendingEntry) → LinesBelow 64 es → LinesBelow 64 (take n es)
take_lines zero es below = tt
take_lines (suc n) [] below = tt
take_lines (suc n) (Write word value ∷ es) below = (below.0, take_lines n es below.1)
take_lines (suc n) (Marker line ∷ es) below = take_lines n es below

-- each entry is a write of a line
abbrev AreOn : ℕ → List PendingEntry → Type 0
AreOn line [] = Unit {0}
AreOn line (Write word value ∷ es) = (line_of word ≡ line) × AreOn line es
AreOn line (Marker other ∷ es) = ⊥

writes_are_on : (line : ℕ) (es : List PendingEntry) → AreOn line (writes_on line es)
writes_are_on line [] = tt
writes_are_on line (Write word value ∷ es) = by (line_of word == line) refl (writes_are_on line es)
  where
    by : (b : Bool) → (line_of word == line) ≡ b → AreOn line (writes_on line es) → AreOn line (if b then Write word value ∷ writes_on line es else writes_on line es)
    by true is rest = (eqb-true (line_of word) line is, rest)
    by false is rest = rest
writes_are_on line (Marker other ∷ es) = writes_are_on line es

take_on : (line n : ℕ) (es : List PendingEntry) → AreOn line es → AreOn line (take n es)
take_on line zero es on = tt
take_on line (suc n) [] on = tt
take_on line (suc n) (Write word value ∷ es) on = (on.0, take_on line n es on.1)
take_on line (suc n) (Marker other ∷ es) on = absurd on

drop_on : (line n : ℕ) (es : List PendingEntry) → AreOn line es → AreOn line (drop n es)
drop_on line zero es on = on
drop_on line (suc n) [] on = tt
drop_on line (suc n) (Write word value ∷ es) on = drop_on line n es on.1
drop_on line (suc n) (Marker other ∷ es) on = absurd on

open_on : (line k : ℕ) (es : List PendingEntry) → AreOn line (open_writes line k es)
open_on line k es = take_on line (before line k es - low line k es) (drop (low line k es) (writes_on line es)) (drop_on line (low line k es) (writes_on line es) (writes_are_on line es))

none_of_others : (line word : ℕ) (es : List PendingEntry) → line ≢ line_of word → AreOn line es → newest (value_to word) es ≡ None
none_of_others line word [] other on = refl
none_of_others line word (Write target value ∷ es) other on =
    elim (cases_Bool (target == word)) [
      | inl same ↦ absurd (other (sym on.0 ∙ ap line_of (eqb-true target word same)))
      | inr apart ↦ rw (none_of_others line word es other on.1, apart) refl
    ]
none_of_others line word (Marker target ∷ es) other on = absurd on

all_theirs : (line : ℕ) (es : List PendingEntry) → AreOn line es → writes_on line es ≡ es
all_theirs line [] on = refl
all_theirs line (Write word value ∷ es) on = let same = eq-eqb (line_of word) line on.0 in rw same (ap (λ (l : List PendingEntry). Write word value ∷ l) (all_theirs line es on.1))
all_theirs line (Marker other ∷ es) on = absurd on

none_theirs : (line other : ℕ) (es : List PendingEntry) → other ≢ line → AreOn other es → writes_on line es ≡ []
none_theirs line other [] differ on = refl
none_theirs line other (Write word value ∷ es) differ on =
    elim (cases_Bool (line_of word == line)) [
      | inl same ↦ absurd (differ (sym on.0 ∙ eqb-true (line_of word) line same))
      | inr apart ↦ rw apart (none_theirs line other es differ on.1)
    ]
none_theirs line other (Marker l ∷ es) differ on = absurd on

-- no write is of a line beyond
none_beyond : (line : ℕ) (es : List PendingEntry) → LinesBelow 64 es → 64 ≤ line → writes_on line es ≡ []
none_beyond line [] below far = refl
none_beyond line (Write word value ∷ es) below far =
    let inside = below.0 in
    elim (cases_Bool (line_of word == line)) [
      | inl same ↦ let is = eqb-true (line_of word) line same in absurd (omega (arith, is, inside, far))
      | inr apart ↦ rw apart (none_beyond line es below.1 far)
    ]
none_beyond line (Marker other ∷ es) below far = none_beyond line es below far

-- ---- a word of a cut

image_long : (lines : ℕ) (count : ℕ → ℕ) (es : List PendingEntry) (xs : List ℕ) → length (image_of lines count es xs) ≡ length xs
image_long zero count es xs = refl
image_long (suc line) count es xs = written_long (take (count line) (writes_on line es)) (image_of line count es xs) ∙ image_long line count es xs

module _ (m : Memory) (whole : IsWhole m) (count : ℕ → ℕ) where
  one_line : (line word : ℕ) → slice_index (image_of (suc line) count m.pending m.persisted) word ≡ unwrap_or (newest (value_to word) (take (count line) (writes_on line m.pending))) (slice_index (image_of line count m.pending m.persisted) word)
  one_line line word =
      written_shows (take (count line) (writes_on line m.pending)) (image_of line count m.pending m.persisted) word (take_lines (count line) (writes_on line m.pending) (writes_lines line m.pending whole.lines))
      (image_long line count m.pending m.persisted ∙ whole.persisted)

  pub word_beyond : (lines word : ℕ) → lines ≤ line_of word → slice_index (image_of lines count m.pending m.persisted) word ≡ slice_index m.persisted word
  word_beyond zero word far = refl
  word_beyond (suc line) word far =
      let other : line ≢ line_of word = omega (arith, far) in
      let none = none_of_others line word (take (count line) (writes_on line m.pending)) other (take_on line (count line) (writes_on line m.pending) (writes_are_on line m.pending)) in
      one_line line word ∙ (λ i. unwrap_or (none i) (word_beyond line word (omega (arith, far)) i))

  pub word_of_cut : (lines word : ℕ) → line_of word < lines → slice_index (image_of lines count m.pending m.persisted) word ≡ value_after m (count (line_of word)) word
  word_of_cut zero word inside = absurd (omega (arith, inside))
  word_of_cut (suc line) word inside =
      one_line line word ∙ elim (cases_Bool (line == line_of word)) [
        | inl same ↦
            let is : line ≡ line_of word = eqb-true line (line_of word) same in
            (λ i. unwrap_or (newest (value_to word) (take (count (is i)) (writes_on (is i) m.pending))) (word_beyond line word (omega (arith, is)) i))
        | inr apart ↦
            let other : line ≢ line_of word = (λ e. true≢false (sym (eq-eqb line (line_of word) e) ∙ apart)) in
            let none = none_of_others line word (take (count line) (writes_on line m.pending)) other (take_on line (count line) (writes_on line m.pending) (writes_are_on line m.pending)) in
            (λ i. unwrap_or (none i) (slice_index (image_of line count m.pending m.persisted) word)) ∙ word_of_cut line word (omega (arith, inside, other))
      ]

-- ---- what is pending in a narrowed memory

abbrev pub part : Bool → List PendingEntry → List PendingEntry
part asked es = if asked then es else []

part_on : (b : Bool) (line k : ℕ) (es : List PendingEntry) → AreOn line (part b (open_writes line k es))
part_on true line k es = open_on line k es
part_on false line k es = tt

module _ (asked : ℕ → Bool) (k : ℕ) (es : List PendingEntry) where
  opens_past : (lines line : ℕ) → lines ≤ line → writes_on line (opens asked lines k es) ≡ []
  opens_past zero line far = refl
  opens_past (suc other) line far =
      filter-append (is_write_on line) (opens asked other k es) (part (asked other) (open_writes other k es))
      ∙ ap₂ (λ (a b : List PendingEntry). a ++ b) (opens_past other line (omega (arith, far))) (none_theirs line other (part (asked other) (open_writes other k es)) (omega (arith, far)) (part_on (asked other) other k es))

  opens_at : (lines line : ℕ) → line < lines → writes_on line (opens asked lines k es) ≡ part (asked line) (open_writes line k es)
  opens_at zero line inside = absurd (omega (arith, inside))
  opens_at (suc other) line inside =
      filter-append (is_write_on line) (opens asked other k es) (part (asked other) (open_writes other k es))
      ∙ elim (cases_Bool (other == line)) [
        | inl same ↦
            let is : other ≡ line = eqb-true other line same in
            ap₂ (λ (a b : List PendingEntry). a ++ b) (opens_past other line (omega (arith, is))) (subst (λ (l : ℕ). writes_on l (part (asked other) (open_writes other k es)) ≡ part (asked l) (open_writes l k es)) is
            (all_theirs other (part (asked other) (open_writes other k es)) (part_on (asked other) other k es)))
        | inr apart ↦
            let differ : other ≢ line = (λ e. true≢false (sym (eq-eqb other line e) ∙ apart)) in
            ap₂ (λ (a b : List PendingEntry). a ++ b) (opens_at other line (omega (arith, inside, differ))) (none_theirs line other (part (asked other) (open_writes other k es)) differ (part_on (asked other) other k es))
            ∙ no_more (part (asked line) (open_writes line k es))
      ]
    where
      no_more : (xs : List PendingEntry) → xs ++ [] ≡ xs
      no_more [] = refl
      no_more (x ∷ xs) = ap (λ (l : List PendingEntry). x ∷ l) (no_more xs)

-- ---- two parts of a line's writes

newest_of_both : (gives : PendingEntry → Option ℕ) (xs ys : List PendingEntry) → newest gives (xs ++ ys) ≡ option_or (newest gives ys) (newest gives xs)
newest_of_both gives [] ys = none (newest gives ys)
  where
    none : (o : Option ℕ) → o ≡ option_or o None
    none None = refl
    none (Some x) = refl
newest_of_both gives (x ∷ xs) ys = ap (λ (o : Option ℕ). option_or o (gives x)) (newest_of_both gives xs ys) ∙ grouped (newest gives ys) (newest gives xs) (gives x)
  where
    grouped : (o p q : Option ℕ) → option_or (option_or o p) q ≡ option_or o (option_or p q)
    grouped None p q = refl
    grouped (Some y) p q = refl

either : (o p : Option ℕ) (x : ℕ) → unwrap_or o (unwrap_or p x) ≡ unwrap_or (option_or o p) x
either None p x = refl
either (Some y) p x = refl

joined : (gives : PendingEntry → Option ℕ) (ws : List PendingEntry) (a b n x : ℕ) → n ≤ b - a → unwrap_or (newest gives (take n (slice_range ws a b))) (unwrap_or (newest gives (take a ws)) x) ≡ unwrap_or (newest gives (take (a + n) ws)) x
joined gives ws a b n x few =
    either (newest gives (take n (slice_range ws a b))) (newest gives (take a ws)) x
    ∙ ap (λ (l : List PendingEntry). unwrap_or (option_or (newest gives l) (newest gives (take a ws))) x) (take-take n (b - a) (drop a ws) few)
    ∙ ap (λ (o : Option ℕ). unwrap_or o x) (sym (newest_of_both gives (take a ws) (take n (drop a ws))))
    ∙ ap (λ (l : List PendingEntry). unwrap_or (newest gives l) x) (sym (take-add a n ws))

abbrev nothing : List PendingEntry
nothing = []

no_part : (a b : ℕ) → take a (drop b nothing) ≡ nothing
no_part zero b = refl
no_part (suc a) zero = refl
no_part (suc a) (suc b) = refl

none_taken : (n : ℕ) → take n nothing ≡ nothing
none_taken zero = refl
none_taken (suc n) = refl

pub length_part : (line k : ℕ) (es : List PendingEntry) → length (open_writes line k es) ≡ before line k es - low line k es
length_part line k es =
    let within = before_within line k es in
    let left = length-drop (low line k es) (writes_on line es) in
    length-take-le (before line k es - low line k es) (drop (low line k es) (writes_on line es)) (omega (arith, within, left))

-- ---- no markers, and lines

abbrev pub Plain : List PendingEntry → Type 0
Plain [] = Unit {0}
Plain (Write word value ∷ es) = Plain es
Plain (Marker line ∷ es) = ⊥

plain_both : (xs ys : List PendingEntry) → Plain xs → Plain ys → Plain (xs ++ ys)
plain_both [] ys h g = g
plain_both (Write word value ∷ xs) ys h g = plain_both xs ys h g
plain_both (Marker line ∷ xs) ys h g = absurd h

plain_on : (line : ℕ) (es : List PendingEntry) → AreOn line es → Plain es
plain_on line [] on = tt
plain_on line (Write word value ∷ es) on = plain_on line es on.1
plain_on line (Marker other ∷ es) on = absurd on

plain_before : (es : List PendingEntry) → Plain es → before_marker 0 es ≡ es
plain_before [] plain = refl
plain_before (Write word value ∷ es) plain = ap (λ (l : List PendingEntry). Write word value ∷ l) (plain_before es plain)
plain_before (Marker line ∷ es) plain = absurd plain

pub plain_markers : (es : List PendingEntry) → Plain es → markers es ≡ 0
plain_markers [] plain = refl
plain_markers (Write word value ∷ es) plain = plain_markers es plain
plain_markers (Marker line ∷ es) plain = absurd plain

pub all_before : (line : ℕ) (es : List PendingEntry) → Plain es → before line 0 es ≡ length (writes_on line es)
all_before line es plain = ap (count_by (is_write_on line)) (plain_before es plain) ∙ sym (length-filter (is_write_on line) es)

below_both : (xs ys : List PendingEntry) → LinesBelow 64 xs → LinesBelow 64 ys → LinesBelow 64 (xs ++ ys)
below_both [] ys h g = g
below_both (Write word value ∷ xs) ys h g = (h.0, below_both xs ys h.1 g)
below_both (Marker line ∷ xs) ys h g = below_both xs ys h g

below_on : (line : ℕ) (es : List PendingEntry) → line < 64 → AreOn line es → LinesBelow 64 es
below_on line [] inside on = tt
below_on line (Write word value ∷ es) inside on = let is = on.0 in (omega (arith, is, inside), below_on line es inside on.1)
below_on line (Marker other ∷ es) inside on = absurd on

pub opens_plain : (asked : ℕ → Bool) (lines k : ℕ) (es : List PendingEntry) → Plain (opens asked lines k es)
opens_plain asked zero k es = tt
opens_plain asked (suc line) k es = plain_both (opens asked line k es) (part (asked line) (open_writes line k es)) (opens_plain asked line k es) (plain_on line (part (asked line) (open_writes line k es)) (part_on (asked line) line k es))

opens_below : (asked : ℕ → Bool) (lines k : ℕ) (es : List PendingEntry) → lines ≤ 64 → LinesBelow 64 (opens asked lines k es)
opens_below asked zero k es few = tt
opens_below asked (suc line) k es few =
    below_both (opens asked line k es) (part (asked line) (open_writes line k es)) (opens_below asked line k es (omega (arith, few))) (below_on line (part (asked line) (open_writes line k es)) (omega (arith, few)) (part_on (asked line) line k es))

-- ---- a narrowed memory

module _ (asked : ℕ → Bool) (m : Memory) (k : ℕ) (whole : IsWhole m) (narrow : Memory) (is : IsNarrow asked m k narrow) where
  pub narrow_whole : IsWhole narrow
  narrow_whole = record {
    lines = let all = all_is in subst (LinesBelow 64) (sym is.pending) (opens_below asked all_lines k m.pending (omega (arith, all)));
    persisted = is.made.size;
  }

  pub narrow_plain : Plain narrow.pending
  narrow_plain = subst Plain (sym is.pending) (opens_plain asked all_lines k m.pending)

  nothing_open : (b : Bool) (line : ℕ) → 64 ≤ line → part b (open_writes line k m.pending) ≡ []
  nothing_open true line far = ap (λ (ws : List PendingEntry). slice_range ws (low line k m.pending) (before line k m.pending)) (none_beyond line m.pending whole.lines far) ∙ no_part (before line k m.pending - low line k m.pending) (low line k m.pending)
  nothing_open false line far = refl

  pub narrow_writes : (line : ℕ) → writes_on line narrow.pending ≡ part (asked line) (open_writes line k m.pending)
  narrow_writes line =
      ap (writes_on line) is.pending ∙ elim (cases_lt line all_lines) [
        | inl inside ↦ opens_at asked k m.pending all_lines line inside
        | inr far ↦ let all = all_is in opens_past asked k m.pending all_lines line far ∙ sym (nothing_open (asked line) line (omega (arith, all, far)))
      ]

  chosen_far : (b : Bool) (line n : ℕ) → 64 ≤ line → n ≡ 0 → IsChosen b m k line n
  chosen_far true line n far none =
      let most = before_none 64 line k m.pending whole.lines far in
      let least = low_within line k m.pending in
      omega (arith, most, least, none)
  chosen_far false line n far none =
      let most = before_none 64 line k m.pending whole.lines far in
      let least = low_within line k m.pending in record {
        from = omega (arith, most, least, none);
        to = omega (arith, none);
        first = λ i at_least at_most.
            let same : i ≡ n = omega (arith, most, at_most, none) in
            subst (λ (j : ℕ). slice_cmp nat_cmp (line_values m line n) (line_values m line j) ≢ Greater) (sym same) (not_above (line_values m line n));
      }

  chosen_each : (line : ℕ) → IsChosen (asked line) m k line (slice_index is.counts line)
  chosen_each line =
      elim (cases_lt line 64) [
        | inl inside ↦ is.chosen.each line inside
        | inr far ↦ let size = is.chosen.size in chosen_far (asked line) line (slice_index is.counts line) far (get_or_past is.counts line 0 (omega (arith, size, far)))
      ]

  -- a cut of the memory for one of the narrowed memory
  abbrev pub wide : (ℕ → ℕ) → ℕ → ℕ
  wide c line = if asked line then low line k m.pending + c line else slice_index is.counts line

  abbrev pub InRange : (ℕ → ℕ) → Type 0
  InRange c = (line : ℕ) → c line ≤ length (writes_on line narrow.pending)

  range_by : (b : Bool) (line n : ℕ) → n ≤ length (part b (open_writes line k m.pending)) → IsChosen b m k line (slice_index is.counts line)
      → (low line k m.pending ≤ (if b then low line k m.pending + n else slice_index is.counts line)) × ((if b then low line k m.pending + n else slice_index is.counts line) ≤ before line k m.pending)
  range_by true line n few chosen =
      let size = length_part line k m.pending in
      let least = low_within line k m.pending in
      (omega arith, omega (arith, size, few, least))
  range_by false line n few chosen = (chosen.from, chosen.to)

  in_range : (c : ℕ → ℕ) → InRange c → (line : ℕ) → (low line k m.pending ≤ wide c line) × (wide c line ≤ before line k m.pending)
  in_range c few line = range_by (asked line) line (c line) (subst (λ (ws : List PendingEntry). c line ≤ length ws) (narrow_writes line) (few line)) (chosen_each line)

  value_by : (b : Bool) (n word : ℕ) → n ≤ length (part b (open_writes (line_of word) k m.pending)) → IsChosen b m k (line_of word) (slice_index is.counts (line_of word))
      → unwrap_or (newest (value_to word) (take n (part b (open_writes (line_of word) k m.pending)))) (value_after m (slice_index is.counts (line_of word)) word)
      ≡ value_after m (if b then low (line_of word) k m.pending + n else slice_index is.counts (line_of word)) word
  value_by true n word few chosen =
      let line = line_of word in
      let size = length_part line k m.pending in
      ap (λ (i : ℕ). unwrap_or (newest (value_to word) (take n (open_writes line k m.pending))) (value_after m i word)) chosen
      ∙ joined (value_to word) (writes_on line m.pending) (low line k m.pending) (before line k m.pending) n (slice_index m.persisted word) (omega (arith, size, few))
  value_by false n word few chosen = ap (λ (ws : List PendingEntry). unwrap_or (newest (value_to word) ws) (value_after m (slice_index is.counts (line_of word)) word)) (none_taken n)

  value_same : (c : ℕ → ℕ) → InRange c → (word : ℕ) → word < 512 → value_after narrow (c (line_of word)) word ≡ value_after m (wide c (line_of word)) word
  value_same c few word inside =
      let line = line_of word in
      (λ i. unwrap_or (newest (value_to word) (take (c line) (narrow_writes line i))) (is.made.each word inside i))
      ∙ value_by (asked line) (c line) word (subst (λ (ws : List PendingEntry). c line ≤ length ws) (narrow_writes line) (few line)) (chosen_each line)

  pub image_same : (c : ℕ → ℕ) → InRange c → image_of all_lines c narrow.pending narrow.persisted ≡ image_of all_lines (wide c) m.pending m.persisted
  image_same c few =
      let size = is.made.size in
      let long = image_long all_lines c narrow.pending narrow.persisted in
      same_number_lists (image_of all_lines c narrow.pending narrow.persisted) (image_of all_lines (wide c) m.pending m.persisted)
      (long ∙ size ∙ sym (image_long all_lines (wide c) m.pending m.persisted ∙ whole.persisted))
      (λ word within.
      let inside : word < 512 = omega (arith, within, long, size) in
      let all = all_is in
      let there : line_of word < all_lines = omega (arith, inside, all) in
      word_of_cut narrow narrow_whole c all_lines word there ∙ value_same c few word inside ∙ sym (word_of_cut m whole (wide c) all_lines word there))

  -- what the narrowed memory leaves, the memory leaves where k markers went
  pub wide_cut : k ≤ markers m.pending → (j : ℕ) (c : ℕ → ℕ) → IsCut j c narrow.pending → IsCut k (wide c) m.pending × InRange c
  wide_cut within j c cut =
      let few : InRange c = λ line. (let inside = cut.inside line in let size = before_within line j narrow.pending in omega (arith, inside, size)) in (
        record {
          few = within;
          inside = λ line. (in_range c few line).1;
          settled = λ i line less at. let first = asked_low line k i m.pending less at in let more = (in_range c few line).0 in omega (arith, first, more);
        },
        few,
      )

  -- and back: of each line that is asked as many writes
  abbrev pub shrunk : (ℕ → ℕ) → ℕ → ℕ
  shrunk count line = if asked line then count line - low line k m.pending else 0

  shrunk_by : (b : Bool) (line n : ℕ) → n ≤ before line k m.pending → (if b then n - low line k m.pending else 0) ≤ length (part b (open_writes line k m.pending))
  shrunk_by true line n most = let size = length_part line k m.pending in omega (arith, size, most)
  shrunk_by false line n most = omega arith

  pub shrunk_range : (count : ℕ → ℕ) → IsCut k count m.pending → InRange (shrunk count)
  shrunk_range count cut line = subst (λ (ws : List PendingEntry). shrunk count line ≤ length ws) (sym (narrow_writes line)) (shrunk_by (asked line) line (count line) (cut.inside line))

  pub shrunk_cut : (count : ℕ → ℕ) → IsCut k count m.pending → IsCut 0 (shrunk count) narrow.pending
  shrunk_cut count cut = record {
    few = omega arith;
    inside = λ line. (let most = shrunk_range count cut line in let same = all_before line narrow.pending narrow_plain in omega (arith, most, same));
    settled = λ j line less at. absurd (omega (arith, less));
  }

  at_least : (count : ℕ → ℕ) → IsCut k count m.pending → (line : ℕ) → low line k m.pending ≤ count line
  at_least count cut line = low_asked line k m.pending (count line) (λ j less at. cut.settled j line less at)

  -- a line that is asked is as it was; another one has its least values
  pub line_same : (count : ℕ → ℕ) → IsCut k count m.pending → (line : ℕ) → asked line ≡ true → wide (shrunk count) line ≡ count line
  line_same count cut line on =
      let least = at_least count cut line in
      ap (λ (b : Bool). if b then low line k m.pending + (if b then count line - low line k m.pending else 0) else slice_index is.counts line) on ∙ back (low line k m.pending) (count line) least
    where
      back : (a n : ℕ) → a ≤ n → a + (n - a) ≡ n
      back a n le = omega (arith, le)

  pub line_least : (count : ℕ → ℕ) → IsCut k count m.pending → (line : ℕ) → asked line ≡ false → slice_cmp nat_cmp (line_values m line (wide (shrunk count) line)) (line_values m line (count line)) ≢ Greater
  line_least count cut line off =
      let chosen : IsLeastCount m line (low line k m.pending) (before line k m.pending) (slice_index is.counts line) = subst (λ (b : Bool). IsChosen b m k line (slice_index is.counts line)) off (chosen_each line) in
      let same : wide (shrunk count) line ≡ slice_index is.counts line = ap (λ (b : Bool). if b then low line k m.pending + shrunk count line else slice_index is.counts line) off in
      subst (λ (n : ℕ). slice_cmp nat_cmp (line_values m line n) (line_values m line (count line)) ≢ Greater) (sym same) (chosen.first (count line) (at_least count cut line) (cut.inside line))
