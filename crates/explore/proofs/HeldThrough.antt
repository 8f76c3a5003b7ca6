-- What a line may hold, by its own writes: those before its last marker are settled.
use Rattle.std.proofs.Common.{◌≡◌, ℕ, zero, suc, ◌+◌, ◌-◌, ◌*◌, ◌%◌, ◌<◌, ◌≤◌, inl, inr, Bool, true, false, cond, Option, Some, List, [], ◌∷◌, ◌++◌, drop, filter, length, map, not, refl, sym, ap, subst, ◌∙◌, arith, true≢false}
use Rattle.std.specs.Prelude.{◌==◌, count_by, nat_eq, slice_get, slice_index, slice_set, if◌then◌else◌}
use Rattle.std.specs.List.{range_with_len}
use Rattle.std.specs.Cmp.Lexicographic.{pointwise}
use Rattle.std.proofs.lemmas.Bool.{cases_Bool}
use Rattle.std.proofs.lemmas.List.Sums.{length-filter}
use Rattle.lines_layout.specs.Lines.{line_of, line_words}
use Rattle.persist_buffer.specs.declared.entry.PendingEntry.{PendingEntry}
use Rattle.persist_buffer.specs.declared.entry.PendingEntry.TheVariants.{Write, Marker}
use Rattle.persist_buffer.specs.Listings.{writes_on}
use Rattle.persist_buffer.specs.Memories.{is_write_on, write_count}
use Rattle.persist_buffer.specs.State.{Memory}
use Rattle.pending_images.specs.Candidates.{before, is_of, low, marker_at, markers}
use Rattle.pending_images.specs.Listings.{in_order}
use Rattle.pending_images.proofs.CountsBeforeMarkers.{before_more, before_past, markers_more, one}
use Rattle.explore.specs.LineSets.{Held, held_after, held_by, held_from, held_through, held_with, others}

-- whether one of the first k markers is of a line
abbrev pub marked : ℕ → ℕ → List PendingEntry → Bool
marked line zero es = false
marked line (suc k) es = cond (is_of line (marker_at k es)) true (marked line k es)

-- ---- with a write in front

marked_write : (line k word value : ℕ) (es : List PendingEntry) → marked line k (Write word value ∷ es) ≡ marked line k es
marked_write line zero word value es = refl
marked_write line (suc k) word value es = ap (λ (b : Bool). cond (is_of line (marker_at k es)) true b) (marked_write line k word value es)

low_write : (line k word value : ℕ) (es : List PendingEntry) → low line k (Write word value ∷ es) ≡ cond (marked line k es) (one line word + low line k es) 0
low_write line zero word value es = refl
low_write line (suc k) word value es = by (is_of line (marker_at k es)) (before_more line k word value es) (low_write line k word value es)
  where
    by : (b : Bool) → before line k (Write word value ∷ es) ≡ one line word + before line k es → low line k (Write word value ∷ es) ≡ cond (marked line k es) (one line word + low line k es) 0
        → cond b (before line k (Write word value ∷ es)) (low line k (Write word value ∷ es)) ≡ cond (cond b true (marked line k es)) (one line word + cond b (before line k es) (low line k es)) 0
    by true here later = here
    by false here later = later

low_unmarked : (line k : ℕ) (es : List PendingEntry) → marked line k es ≡ false → low line k es ≡ 0
low_unmarked line zero es none = refl
low_unmarked line (suc k) es none = by (is_of line (marker_at k es)) (low_unmarked line k es) none
  where
    by : (b : Bool) → (marked line k es ≡ false → low line k es ≡ 0) → cond b true (marked line k es) ≡ false → cond b (before line k es) (low line k es) ≡ 0
    by true rest e = absurd (true≢false e)
    by false rest e = rest e

-- ---- with a marker in front

either_way : (a b c : Bool) → cond a true (cond b true c) ≡ cond b true (cond a true c)
either_way true true c = refl
either_way true false c = refl
either_way false true c = refl
either_way false false c = refl

marked_past : (line k other : ℕ) (es : List PendingEntry) → marked line (suc k) (Marker other ∷ es) ≡ cond (other == line) true (marked line k es)
marked_past line zero other es = refl
marked_past line (suc k) other es =
    ap (λ (b : Bool). cond (is_of line (marker_at k es)) true b) (marked_past line k other es) ∙ either_way (is_of line (marker_at k es)) (other == line) (marked line k es)

low_past : (line k other : ℕ) (es : List PendingEntry) → low line (suc k) (Marker other ∷ es) ≡ low line k es
low_past line zero other es = either (other == line) 0
  where
    either : (b : Bool) (n : ℕ) → cond b n n ≡ n
    either true n = refl
    either false n = refl
low_past line (suc k) other es = ap (λ (n : ℕ). cond (is_of line (marker_at k es)) (before line k es) n) (low_past line k other es)

-- ---- all entries

-- the values of a line's words, and those that they had where none of the line's markers comes
abbrev from_here : Held → Bool → Held
from_here held b = record { values = held.values; passed = cond b [] held.passed }

-- a write of the line
over_write : (line word value : ℕ) (es ws : List PendingEntry) (held was : Held) (b : Bool) (n m : ℕ)
    → was ≡ held_through n (from_here (held_with false (word % line_words) value held) b) ws → (b ≡ false → n ≡ 0) → m ≡ cond b (1 + n) 0
    → was ≡ held_through m (from_here held b) (Write word value ∷ ws)
over_write line word value es ws held was true n m is none more =
    let next : m ≡ suc n = omega (arith, more) in
    is ∙ ap (λ (k : ℕ). held_through k (from_here held true) (Write word value ∷ ws)) (sym next)
over_write line word value es ws held was false n m is none more =
    is ∙ ap (λ (k : ℕ). held_through k (from_here (held_with false (word % line_words) value held) false) ws) (none refl)
    ∙ ap (λ (k : ℕ). held_through k (from_here held false) (Write word value ∷ ws)) (sym more)

pub through : (line : ℕ) (es : List PendingEntry) (held : Held) → held_from line held es ≡ held_through (low line (markers es) es) (from_here held (marked line (markers es) es)) (writes_on line es)
through line [] held = refl
through line (Write word value ∷ es) held =
    let k : ℕ = markers es in
    let lows : low line k (Write word value ∷ es) ≡ cond (marked line k es) (one line word + low line k es) 0 = low_write line k word value es in
    let same : marked line k (Write word value ∷ es) ≡ marked line k es = marked_write line k word value es in
    elim (cases_Bool (line_of word == line)) [
      | inl on ↦
          let now : Held = held_with false (word % line_words) value held in
          let after : held_after line held (Write word value) ≡ now = ap (λ (b : Bool). if b then now else held) on in
          let ws : writes_on line (Write word value ∷ es) ≡ Write word value ∷ writes_on line es = ap (λ (b : Bool). cond b (Write word value ∷ writes_on line es) (writes_on line es)) on in
          let once : one line word ≡ 1 = ap (λ (b : Bool). cond b 1 0) on in
          let more : low line k (Write word value ∷ es) ≡ cond (marked line k es) (1 + low line k es) 0 = lows ∙ ap (λ (n : ℕ). cond (marked line k es) (n + low line k es) 0) once in
          ap (λ (h : Held). held_from line h es) after
          ∙ over_write line word value es (writes_on line es) held _ (marked line k es) (low line k es) (low line k (Write word value ∷ es)) (through line es now) (low_unmarked line k es) more
          ∙ (λ j. held_through (low line k (Write word value ∷ es)) (from_here held (sym same j)) (sym ws j))
      | inr off ↦
          let after : held_after line held (Write word value) ≡ held = ap (λ (b : Bool). if b then held_with false (word % line_words) value held else held) off in
          let ws : writes_on line (Write word value ∷ es) ≡ writes_on line es = ap (λ (b : Bool). cond b (Write word value ∷ writes_on line es) (writes_on line es)) off in
          let none : one line word ≡ 0 = ap (λ (b : Bool). cond b 1 0) off in
          let more : low line k (Write word value ∷ es) ≡ low line k es = lows ∙ as_it_was (marked line k es) (one line word) (low line k es) none (low_unmarked line k es) in
          ap (λ (h : Held). held_from line h es) after ∙ through line es held
          ∙ (λ j. held_through (sym more j) (from_here held (sym same j)) (sym ws j))
    ]
  where
    as_it_was : (b : Bool) (n m : ℕ) → n ≡ 0 → (b ≡ false → m ≡ 0) → cond b (n + m) 0 ≡ m
    as_it_was true n m none zero_then = omega (arith, none)
    as_it_was false n m none zero_then = sym (zero_then refl)
through line (Marker other ∷ es) held =
    let k : ℕ = markers es in
    let next : markers (Marker other ∷ es) ≡ suc k = markers_more other es ∙ plus_one k in
    let lows : low line (markers (Marker other ∷ es)) (Marker other ∷ es) ≡ low line k es = ap (λ (n : ℕ). low line n (Marker other ∷ es)) next ∙ low_past line k other es in
    let marks : marked line (markers (Marker other ∷ es)) (Marker other ∷ es) ≡ cond (other == line) true (marked line k es) = ap (λ (n : ℕ). marked line n (Marker other ∷ es)) next ∙ marked_past line k other es in
    elim (cases_Bool (other == line)) [
      | inl on ↦
          let now : Held = record { values = held.values; passed = [] } in
          let after : held_after line held (Marker other) ≡ now = ap (λ (b : Bool). if b then now else held) on in
          let all : marked line (markers (Marker other ∷ es)) (Marker other ∷ es) ≡ true = marks ∙ ap (λ (b : Bool). cond b true (marked line k es)) on in
          ap (λ (h : Held). held_from line h es) after ∙ through line es now
          ∙ ap (λ (lists : List (List ℕ)). held_through (low line k es) (record { values = held.values; passed = lists }) (writes_on line es)) (nothing_either (marked line k es))
          ∙ (λ j. held_through (sym lows j) (from_here held (sym all j)) (writes_on line es))
      | inr off ↦
          let after : held_after line held (Marker other) ≡ held = ap (λ (b : Bool). if b then record { values = held.values; passed = [] } else held) off in
          let all : marked line (markers (Marker other ∷ es)) (Marker other ∷ es) ≡ marked line k es = marks ∙ ap (λ (b : Bool). cond b true (marked line k es)) off in
          ap (λ (h : Held). held_from line h es) after ∙ through line es held ∙ (λ j. held_through (sym lows j) (from_here held (sym all j)) (writes_on line es))
    ]
  where
    plus_one : (n : ℕ) → 1 + n ≡ suc n
    plus_one n = omega arith

    nothing_either : (b : Bool) → ◌≡◌ {A = List (List ℕ)} (cond b [] []) []
    nothing_either true = refl
    nothing_either false = refl

-- ---- as the code finds them

nothing_new : (n : ℕ) (held : Held) (ws : List PendingEntry) → length ws ≤ n → (held_through n held ws).passed ≡ held.passed
nothing_new n held [] few = refl
nothing_new zero held (Write word value ∷ ws) few = absurd (omega (arith, few))
nothing_new (suc n) held (Write word value ∷ ws) few = nothing_new n (held_with true (word % line_words) value held) ws (omega (arith, few))
nothing_new zero held (Marker other ∷ ws) few = absurd (omega (arith, few))
nothing_new (suc n) held (Marker other ∷ ws) few = nothing_new (suc n) held ws (omega (arith, few))

nothing_first : (b : Bool) → ◌≡◌ {A = List (List ℕ)} (cond b [] []) []
nothing_first true = refl
nothing_first false = refl

-- the values that are persisted, and none before them
abbrev pub first_of : Memory → ℕ → ℕ → Held
first_of m line count = record { values = map (slice_index m.persisted) (range_with_len (line_words * line) count); passed = [] }

pub held_open : (m : Memory) (line count : ℕ) → held_by m line count ≡ held_through (low line (markers m.pending) m.pending) (first_of m line count) (writes_on line m.pending)
held_open m line count =
    through line m.pending (first_of m line count)
    ∙ ap (λ (lists : List (List ℕ)). held_through (low line (markers m.pending) m.pending) (record { values = (first_of m line count).values; passed = lists }) (writes_on line m.pending)) (nothing_first (marked line (markers m.pending) m.pending))

pub nothing_open : (m : Memory) (line count n : ℕ) → n ≡ low line (markers m.pending) m.pending → n ≡ write_count m line → others (held_by m line count) ≡ []
nothing_open m line count n low_is all =
    let long : length (writes_on line m.pending) ≡ write_count m line = length-filter (is_write_on line) m.pending in
    let none : (held_by m line count).passed ≡ [] =
    ap (λ (h : Held). h.passed) (held_open m line count)
    ∙ nothing_new (low line (markers m.pending) m.pending) (first_of m line count) (writes_on line m.pending) (omega (arith, long, low_is, all)) in
    ap (λ (lists : List (List ℕ)). filter (λ values. not (pointwise nat_eq values (held_by m line count).values)) (in_order lists)) none

-- a write of the line comes
split_at : (xs : List PendingEntry) (k : ℕ) (e : PendingEntry) → slice_get xs k ≡ Some e → drop k xs ≡ e ∷ drop (suc k) xs
split_at [] k e is = absurd (cc)
split_at (x ∷ xs) zero e is = let same : x ≡ e = cc in ap (λ (y : PendingEntry). y ∷ xs) same
split_at (x ∷ xs) (suc k) e is = split_at xs k e is

one_through : (b : Bool) (n i word value : ℕ) (held : Held) (ws : List PendingEntry) → (b ≡ true → i < n) → (b ≡ false → n ≤ i)
    → held_through (n - suc i) (held_with b (word % line_words) value held) ws ≡ held_through (n - i) held (Write word value ∷ ws)
one_through true n i word value held ws less past =
    let is_less = less refl in
    let now : n - i ≡ suc (n - suc i) = omega (arith, is_less) in
    ap (λ (k : ℕ). held_through k held (Write word value ∷ ws)) (sym now)
one_through false n i word value held ws less past =
    let is_past = past refl in
    let now : n - i ≡ zero = omega (arith, is_past) in
    let then_none : n - suc i ≡ zero = omega (arith, is_past) in
    ap (λ (k : ℕ). held_through k (held_with false (word % line_words) value held) ws) then_none ∙ ap (λ (k : ℕ). held_through k held (Write word value ∷ ws)) (sym now)

pub write_comes : (ws : List PendingEntry) (i n : ℕ) (word value : ℕ) (held new all : Held) (settled : Bool) → slice_get ws i ≡ Some (Write word value)
    → (settled ≡ true → i < n) → (settled ≡ false → n ≤ i) → new ≡ held_with settled (word % line_words) value held
    → held_through (n - i) held (drop i ws) ≡ all → held_through (n - (i + 1)) new (drop (i + 1) ws) ≡ all
write_comes ws i n word value held new all settled there less past is was =
    let next : i + 1 ≡ suc i = omega arith in
    let rest : drop i ws ≡ Write word value ∷ drop (suc i) ws = split_at ws i (Write word value) there in
    (λ j. held_through (n - next j) (is j) (drop (next j) ws)) ∙ one_through settled n i word value held (drop (suc i) ws) less past
    ∙ ap (λ (xs : List PendingEntry). held_through (n - i) held xs) (sym rest) ∙ was

none_left : (ws : List PendingEntry) (i : ℕ) → length ws ≤ i → drop i ws ≡ []
none_left [] zero past = refl
none_left [] (suc i) past = refl
none_left (x ∷ ws) zero past = absurd (omega (arith, past))
none_left (x ∷ ws) (suc i) past = none_left ws i (omega (arith, past))

-- all writes of the line have come
pub writes_end : (line n i : ℕ) (m : Memory) (held all : Held) → write_count m line ≤ i → held_through (n - i) held (drop i (writes_on line m.pending)) ≡ all → held ≡ all
writes_end line n i m held all past was =
    let long : length (writes_on line m.pending) ≡ write_count m line = length-filter (is_write_on line) m.pending in
    ap (λ (ws : List PendingEntry). held_through (n - i) held ws) (sym (none_left (writes_on line m.pending) i (omega (arith, long, past)))) ∙ was
