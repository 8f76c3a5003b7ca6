-- The values that the code finds of a line are those that it may hold.
use Rattle.std.proofs.Common.{◌≡◌, ◌≢◌, ℕ, zero, suc, ◌+◌, ◌*◌, ◌%◌, ◌<◌, inl, inr, Bool, true, false, not, Option, Some, None, List, [], ◌∷◌, ◌++◌, map, refl, sym, ap, subst, ◌∙◌, arith, true≢false}
use Rattle.std.specs.Prelude.{◌⊎◌, ◌||◌, ◌==◌, Contains, filter, nat_eq, slice_index, slice_set, unwrap_or, if◌then◌else◌}
use Rattle.std.specs.List.{list_any, range_with_len}
use Rattle.std.specs.Option.{option_or}
use Rattle.std.specs.Cmp.Lexicographic.{bytes_decides, pointwise}
use Rattle.std.proofs.lemmas.Bool.{cases_Bool, eqb-true, eq-eqb}
use Rattle.std.proofs.lemmas.List.Elements.{Contains-append_left, Contains-push, Contains-push_cases}
use Rattle.lines_layout.specs.Lines.{line_of}
use Rattle.outcomes.specs.Lists.{newest}
use Rattle.persist_buffer.specs.declared.entry.PendingEntry.{PendingEntry}
use Rattle.persist_buffer.specs.declared.entry.PendingEntry.TheVariants.{Write, Marker}
use Rattle.persist_buffer.specs.Memories.{value_to}
use Rattle.persist_buffer.specs.State.{Memory}
use Rattle.pending_images.specs.Listings.{in_order}
use Rattle.pending_images.proofs.OrderedImages as ordered
use Rattle.explore.specs.LineSets.{Held, held_after, held_by, held_from, is_marker_of, others}
use Rattle.explore.proofs.HeldByLines.{map_as, same_line}
use Rattle.explore.proofs.Members.{first_or_later, first_there, later_there, nothing_there}

-- ---- values that words have at first, and once entries have come

abbrev pub value_with : (ℕ → ℕ) → List PendingEntry → ℕ → ℕ
value_with f before word = unwrap_or (newest (value_to word) before) (f word)

abbrev set_by : (ℕ → ℕ) → PendingEntry → ℕ → ℕ
set_by f e word = unwrap_or (value_to word e) (f word)

value_behind : (f : ℕ → ℕ) (e : PendingEntry) (before : List PendingEntry) (word : ℕ) → value_with f (e ∷ before) word ≡ value_with (set_by f e) before word
value_behind f e before word = by (newest (value_to word) before)
  where
    by : (o : Option ℕ) → unwrap_or (option_or o (value_to word e)) (f word) ≡ unwrap_or o (unwrap_or (value_to word e) (f word))
    by None = refl
    by (Some x) = refl

-- so many words of a line
abbrev pub words_on : (ℕ → ℕ) → ℕ → ℕ → List ℕ
words_on f line count = map f (range_with_len (8 * line) count)

set_other_word : (f : ℕ → ℕ) (target value word : ℕ) → target ≢ word → set_by f (Write target value) word ≡ f word
set_other_word f target value word apart =
    elim (cases_Bool (target == word)) [ inl same ↦ absurd (apart (eqb-true target word same)) | inr not ↦ rw not refl ]

set_this_word : (f : ℕ → ℕ) (target value word : ℕ) → target ≡ word → set_by f (Write target value) word ≡ value
set_this_word f target value word same = rw (eq-eqb target word same) refl

set_range : (f : ℕ → ℕ) (start n target value k : ℕ) → target ≡ start + k → slice_set (map f (range_with_len start n)) k value ≡ map (set_by f (Write target value)) (range_with_len start n)
set_range f start zero target value k at = refl
set_range f start (suc n) target value zero at =
    λ j. sym (set_this_word f target value start (omega (arith, at))) j
    ∷ map_as f (set_by f (Write target value)) (start + 1) n (λ word from to. sym (set_other_word f target value word (λ same. omega (arith, at, from, same)))) j
set_range f start (suc n) target value (suc k) at =
    λ j. sym (set_other_word f target value start (λ same. omega (arith, at, same))) j ∷ set_range f (start + 1) n target value k (omega (arith, at)) j

set_on_line : (f : ℕ → ℕ) (line count target value : ℕ) → line_of target ≡ line → slice_set (words_on f line count) (target % 8) value ≡ words_on (set_by f (Write target value)) line count
set_on_line f line count target value on = set_range f (8 * line) count target value (target % 8) (omega (arith, on))

-- a line of at most eight words
set_off_line : (f : ℕ → ℕ) (line count target value : ℕ) → count < 9 → line_of target ≢ line → words_on f line count ≡ words_on (set_by f (Write target value)) line count
set_off_line f line count target value few off =
    map_as f (set_by f (Write target value)) (8 * line) count (λ word from to. sym (set_other_word f target value word (λ same. off (omega (arith, from, to, few, same)))))

module _ (line count : ℕ) (few : count < 9) where
  -- ---- what is held at a moment

  -- values at a moment since the line's last marker
  pub record Moment (f : ℕ → ℕ) (es : List PendingEntry) (values : List ℕ) : Type 0 where
    pub before : List PendingEntry
    pub since : List PendingEntry
    pub whole : es ≡ before ++ since
    pub unmarked : list_any (is_marker_of line) since ≡ false
    pub shown : values ≡ words_on (value_with f before) line count

  abbrev pub Has : Held → List ℕ → Type 0
  Has held values = (values ≡ held.values) ⊎ Contains held.passed values

  -- what an entry does
  abbrev by_write : Held → ℕ → ℕ → Bool → Held
  by_write held word value on = if on then record { values = slice_set held.values (word % 8) value; passed = held.passed ++ held.values ∷ [] } else held

  values_after : (f : ℕ → ℕ) (held : Held) (e : PendingEntry) → held.values ≡ words_on f line count → (held_after line held e).values ≡ words_on (set_by f e) line count
  values_after f held (Write word value) is =
      elim (same_line (line_of word) line) [
        | inl on ↦ ap (λ (b : Bool). (by_write held word value b).values) (eq-eqb (line_of word) line on) ∙ ap (λ (xs : List ℕ). slice_set xs (word % 8) value) is ∙ set_on_line f line count word value on
        | inr off ↦ ap (λ (b : Bool). (by_write held word value b).values) (differs off) ∙ is ∙ set_off_line f line count word value few off
      ]
    where
      differs : line_of word ≢ line → (line_of word == line) ≡ false
      differs off = elim (cases_Bool (line_of word == line)) [ inl same ↦ absurd (off (eqb-true (line_of word) line same)) | inr not ↦ not ]
  values_after f held (Marker other) is = by (other == line)
    where
      by : (b : Bool) → (if b then record { values = held.values; passed = [] } else held).values ≡ words_on f line count
      by true = is
      by false = is

  pub values_end : (f : ℕ → ℕ) (held : Held) (es : List PendingEntry) → held.values ≡ words_on f line count → (held_from line held es).values ≡ words_on (value_with f es) line count
  values_end f held [] is = is
  values_end f held (e ∷ es) is =
      values_end (set_by f e) (held_after line held e) es (values_after f held e is) ∙ map_as (value_with (set_by f e) es) (value_with f (e ∷ es)) (8 * line) count (λ word from to. sym (value_behind f e es word))

  -- what is held stays, up to a marker
  stays_once : (held : Held) (e : PendingEntry) (values : List ℕ) → is_marker_of line e ≡ false → Has held values → Has (held_after line held e) values
  stays_once held (Write word value) values unmarked has = by (line_of word == line)
    where
      by : (b : Bool) → Has (by_write held word value b) values
      by true = elim has [
        | inl now ↦ inr (subst (Contains (held.passed ++ held.values ∷ [])) (sym now) (Contains-push held.passed held.values))
        | inr passed ↦ inr (Contains-append_left held.passed (held.values ∷ []) values passed)
      ]
      by false = has
  stays_once held (Marker other) values unmarked has = rw unmarked has

  parts : (a b : Bool) → (a || b) ≡ false → (a ≡ false) × (b ≡ false)
  parts true b e = absurd (true≢false e)
  parts false b e = (refl, e)

  stays_held : (held : Held) (es : List PendingEntry) (values : List ℕ) → list_any (is_marker_of line) es ≡ false → Has held values → Has (held_from line held es) values
  stays_held held [] values unmarked has = has
  stays_held held (e ∷ es) values unmarked has =
      let both = parts (is_marker_of line e) (list_any (is_marker_of line) es) unmarked in
      stays_held (held_after line held e) es values both.1 (stays_once held e values both.0 has)

  -- each moment is found
  moment_at : (f : ℕ → ℕ) (held : Held) (es before since : List PendingEntry) (values : List ℕ) → held.values ≡ words_on f line count → es ≡ before ++ since → list_any (is_marker_of line) since ≡ false
      → values ≡ words_on (value_with f before) line count → Has (held_from line held es) values
  moment_at f held [] [] since values is whole unmarked shown = inl (shown ∙ sym is)
  moment_at f held [] (x ∷ before) since values is whole unmarked shown = absurd (cc)
  moment_at f held (e ∷ es) [] since values is whole unmarked shown =
      stays_held held (e ∷ es) values (ap (list_any (is_marker_of line)) whole ∙ unmarked) (inl (shown ∙ sym is))
  moment_at f held (e ∷ es) (x ∷ before) since values is whole unmarked shown =
      let first : x ≡ e = cc in
      let rest : es ≡ before ++ since = cc in
      moment_at (set_by f e) (held_after line held e) es before since values (values_after f held e is) rest unmarked
      (shown ∙ ap (λ (y : PendingEntry). words_on (value_with f (y ∷ before)) line count) first
      ∙ map_as (value_with f (e ∷ before)) (value_with (set_by f e) before) (8 * line) count (λ word from to. value_behind f e before word))

  -- and each that is found was a moment
  abbrev Found : (ℕ → ℕ) → Held → List PendingEntry → List ℕ → Type 0
  Found f held es values = Moment f es values ⊎ ((list_any (is_marker_of line) es ≡ false) × Contains held.passed values)

  moment_behind : (f : ℕ → ℕ) (e : PendingEntry) (es : List PendingEntry) (values : List ℕ) → Moment (set_by f e) es values → Moment f (e ∷ es) values
  moment_behind f e es values m = record {
    before = e ∷ m.before;
    since = m.since;
    whole = ap (λ (xs : List PendingEntry). e ∷ xs) m.whole;
    unmarked = m.unmarked;
    shown = m.shown ∙ map_as (value_with (set_by f e) m.before) (value_with f (e ∷ m.before)) (8 * line) count (λ word from to. sym (value_behind f e m.before word));
  }

  first_moment : (f : ℕ → ℕ) (es : List PendingEntry) (values : List ℕ) → list_any (is_marker_of line) es ≡ false → values ≡ words_on f line count → Moment f es values
  first_moment f es values unmarked shown = record { before = []; since = es; whole = refl; unmarked = unmarked; shown = shown }

  found_behind : (f : ℕ → ℕ) (held : Held) (e : PendingEntry) (es : List PendingEntry) (values : List ℕ) → held.values ≡ words_on f line count → list_any (is_marker_of line) es ≡ false
      → Contains (held_after line held e).passed values → Found f held (e ∷ es) values
  found_behind f held (Write word value) es values is unmarked there = by (line_of word == line) there
    where
      by : (b : Bool) → Contains (by_write held word value b).passed values → Found f held (Write word value ∷ es) values
      by true there = elim (Contains-push_cases held.passed held.values values there) [
        | inl before ↦ inr (unmarked, before)
        | inr now ↦ inl (first_moment f (Write word value ∷ es) values unmarked (sym now ∙ is))
      ]
      by false there = inr (unmarked, there)
  found_behind f held (Marker other) es values is unmarked there = by (other == line) refl there
    where
      by : (b : Bool) → (other == line) ≡ b → Contains (if b then record { values = held.values; passed = [] } else held).passed values → Found f held (Marker other ∷ es) values
      by true same there = absurd (nothing_there values there)
      by false apart there = inr (rw apart unmarked, there)

  was_moment : (f : ℕ → ℕ) (held : Held) (es : List PendingEntry) (values : List ℕ) → held.values ≡ words_on f line count → Has (held_from line held es) values → Found f held es values
  was_moment f held [] values is (inl now) = inl (first_moment f [] values refl (now ∙ is))
  was_moment f held [] values is (inr passed) = inr (refl, passed)
  was_moment f held (e ∷ es) values is has =
      elim (was_moment (set_by f e) (held_after line held e) es values (values_after f held e is) has) [
        | inl moment ↦ inl (moment_behind f e es values moment)
        | inr before ↦ found_behind f held e es values is before.0 before.1
      ]

  -- ---- of a memory

  pub moment_has : (m : Memory) (values : List ℕ) → Moment (slice_index m.persisted) m.pending values → Has (held_by m line count) values
  moment_has m values x = moment_at (slice_index m.persisted) _ m.pending x.before x.since values refl x.whole x.unmarked x.shown

  pub has_moment : (m : Memory) (values : List ℕ) → Has (held_by m line count) values → Moment (slice_index m.persisted) m.pending values
  has_moment m values has =
      elim (was_moment (slice_index m.persisted) _ m.pending values refl has) [ inl moment ↦ moment | inr none ↦ absurd (nothing_there values none.1) ]

-- ---- what is told of it

abbrev kept_if : Bool → List ℕ → List (List ℕ) → List (List ℕ)
kept_if b y ys = if b then y ∷ ys else ys

filter_has : (p : List ℕ → Bool) (xs : List (List ℕ)) (x : List ℕ) → Contains xs x → p x ≡ true → Contains (filter p xs) x
filter_has p [] x there holds = there
filter_has p (y ∷ xs) x there holds = by (p y) refl (first_or_later y x xs there) (λ later. filter_has p xs x later holds)
  where
    by : (b : Bool) → p y ≡ b → (y ≡ x) ⊎ Contains xs x → (Contains xs x → Contains (filter p xs) x) → Contains (kept_if b y (filter p xs)) x
    by true is (inl here) more = subst (λ (z : List ℕ). Contains (y ∷ filter p xs) z) here (first_there y (filter p xs))
    by true is (inr later) more = later_there y x (filter p xs) (more later)
    by false is (inl here) more = absurd (true≢false (sym holds ∙ ap p (sym here) ∙ is))
    by false is (inr later) more = more later

pub filter_only : (p : List ℕ → Bool) (xs : List (List ℕ)) (x : List ℕ) → Contains (filter p xs) x → Contains xs x
filter_only p [] x there = there
filter_only p (y ∷ xs) x there = by (p y) there (filter_only p xs x)
  where
    by : (b : Bool) → Contains (kept_if b y (filter p xs)) x → (Contains (filter p xs) x → Contains xs x) → Contains (y ∷ xs) x
    by true there more = elim (first_or_later y x (filter p xs) there) [
      | inl here ↦ subst (λ (z : List ℕ). Contains (y ∷ xs) z) here (first_there y xs)
      | inr later ↦ later_there y x xs (more later)
    ]
    by false there more = later_there y x xs (more there)

-- two of the same values now, and of the same others
pub told_has : (a b : Held) (values : List ℕ) → a.values ≡ b.values → others a ≡ others b → (values ≡ a.values) ⊎ Contains a.passed values → (values ≡ b.values) ⊎ Contains b.passed values
told_has a b values now same (inl is) = inl (is ∙ now)
told_has a b values now same (inr there) =
    elim (cases_Bool (pointwise nat_eq values a.values)) [
      | inl equal ↦ inl ((bytes_decides values a.values).0 equal ∙ now)
      | inr differs ↦
          let other : Contains (others a) values = filter_has (λ (xs : List ℕ). not (pointwise nat_eq xs a.values)) (in_order a.passed) values ((ordered.in_order_has a.passed values).1 there) (rw differs refl) in
          inr ((ordered.in_order_has b.passed values).0 (filter_only (λ (xs : List ℕ). not (pointwise nat_eq xs b.values)) (in_order b.passed) values (subst (λ (xs : List (List ℕ)). Contains xs values) same other)))
    ]
