-- What leaves the pending list next, and what it leaves behind: by the entry alone, and by its place as the rules tell it.
use Rattle.std.proofs.Common.{◌≡◌, ℕ, suc, ◌+◌, ◌<◌, Bool, true, false, Option, Some, None, Result, Ok, Err, List, [], ◌∷◌, take, refl, sym, ◌∙◌, ap, arith, inl, inr, add-zero}
use Rattle.std.specs.Prelude.{◌==◌, find, remove, slice_set, nat_le, length, IsSome}
use Rattle.std.specs.List.{list_any, position_or_len}
use Rattle.std.proofs.lemmas.Bool.{cases_Bool, eqb-true}
use Rattle.std.proofs.lemmas.Bool.Decides.{nat_tests}
use Rattle.lines_layout.specs.Lines.{line_of}
use Rattle.persist_buffer.specs.declared.entry.PendingEntry.{PendingEntry}
use Rattle.persist_buffer.specs.declared.entry.PendingEntry.TheVariants.{Write, Marker}
use Rattle.persist_buffer.specs.declared.fault.PendingFault.{PendingFault}
use Rattle.persist_buffer.specs.declared.fault.PendingFault.TheVariants.{NoPending, BehindMarker, NoMarker, MarkerWaits}
use Rattle.persist_buffer.specs.State.{Memory, PlacedWrite, PlacedMarker}
use Rattle.outcomes.specs.Outcomes.{◌>>=◌, refuse, required, tested}
use Rattle.persist_buffer.specs.Memories.{is_write_on, is_marker, with_pending, oldest_write_from, oldest_write, oldest_marker_from, oldest_marker, after_persist, persisting_write_on, persisting_write_of, persist_on, persist_of, settling_marker_of, settle_of}
use Rattle.persist_buffer.specs.Nexts.{IsNextWrite, IsNextMarker}
use Rattle.persist_buffer.specs.Firsts.{drop_first, before_first}
use Rattle.persist_buffer.proofs.EntriesAndTheirSerials.{find_passes}

module _ {X : Type 0} (p : X → Bool) where
  place_next : (x : X) (xs : List X) → p x ≡ false → position_or_len p (x ∷ xs) ≡ suc (position_or_len p xs)
  place_next x xs n = let next : 1 + position_or_len p xs ≡ suc (position_or_len p xs) = omega arith in rw (n, next) refl

  -- without the first that passes
  remove_first : (xs : List X) (e : X) → find p xs ≡ Some e → remove xs (position_or_len p xs) ≡ drop_first p xs
  remove_first [] e h = absurd (cc)
  remove_first (x ∷ xs) e h = elim (cases_Bool (p x)) [
    | inl y ↦ rw y refl
    | inr n ↦ rw (place_next x xs n, n) (ap (λ ys. x ∷ ys) (remove_first xs e (rw n at h)))
  ]

oldest_write_is : (i line word value : ℕ) (ws : List PendingEntry) → find (is_write_on line) ws ≡ Some (Write word value)
    → oldest_write_from i line ws ≡ Some (record { place = i + position_or_len (is_write_on line) ws; word = word; value = value })
oldest_write_is i line word value [] h = absurd (cc)
oldest_write_is i line word value (Write w v ∷ ws) h = elim (cases_Bool (line_of w == line)) [
  | inl y ↦ let g = rw y at h in let same : Write w v ≡ Write word value = cc in
      let a : w ≡ word = cc in let b : v ≡ value = cc in let here : i + 0 ≡ i = add-zero i in rw (y, here, a, b) refl
  | inr n ↦ let shift : (i + 1) + position_or_len (is_write_on line) ws ≡ i + (1 + position_or_len (is_write_on line) ws) = omega arith in
      rw n (oldest_write_is (i + 1) line word value ws (rw n at h) ∙ ap (λ k. Some (record { place = k; word = word; value = value })) shift)
]
oldest_write_is i line word value (Marker other ∷ ws) h =
    let shift : (i + 1) + position_or_len (is_write_on line) ws ≡ i + (1 + position_or_len (is_write_on line) ws) = omega arith in
    oldest_write_is (i + 1) line word value ws h ∙ ap (λ k. Some (record { place = k; word = word; value = value })) shift

oldest_write_none : (i line : ℕ) (ws : List PendingEntry) → find (is_write_on line) ws ≡ None → oldest_write_from i line ws ≡ None
oldest_write_none i line [] h = refl
oldest_write_none i line (Write w v ∷ ws) h = elim (cases_Bool (line_of w == line)) [
  | inl y ↦ let g = rw y at h in absurd (cc)
  | inr n ↦ rw n (oldest_write_none (i + 1) line ws (rw n at h))
]
oldest_write_none i line (Marker other ∷ ws) h = oldest_write_none (i + 1) line ws h

oldest_marker_is : (i line : ℕ) (ws : List PendingEntry) → find is_marker ws ≡ Some (Marker line)
    → oldest_marker_from i ws ≡ Some (record { place = i + position_or_len is_marker ws; line = line })
oldest_marker_is i line [] h = absurd (cc)
oldest_marker_is i line (Write w v ∷ ws) h =
    let shift : (i + 1) + position_or_len is_marker ws ≡ i + (1 + position_or_len is_marker ws) = omega arith in
    oldest_marker_is (i + 1) line ws h ∙ ap (λ k. Some (record { place = k; line = line })) shift
oldest_marker_is i line (Marker other ∷ ws) h =
    let same : other ≡ line = cc in let here : i + 0 ≡ i = add-zero i in rw (here, same) refl

oldest_marker_none : (i : ℕ) (ws : List PendingEntry) → find is_marker ws ≡ None → oldest_marker_from i ws ≡ None
oldest_marker_none i [] h = refl
oldest_marker_none i (Write w v ∷ ws) h = oldest_marker_none (i + 1) ws h
oldest_marker_none i (Marker other ∷ ws) h = absurd (cc)

-- the oldest, at its place in the list
write_placed : (m : Memory) (line word value : ℕ) → find (is_write_on line) m.pending ≡ Some (Write word value)
    → oldest_write line m.pending ≡ Some (record { place = position_or_len (is_write_on line) m.pending; word = word; value = value })
write_placed m line word value h =
    let from : 0 + position_or_len (is_write_on line) m.pending ≡ position_or_len (is_write_on line) m.pending = omega arith in
    oldest_write_is 0 line word value m.pending h ∙ ap (λ k. Some (record { place = k; word = word; value = value })) from

marker_placed : (m : Memory) (line : ℕ) → find is_marker m.pending ≡ Some (Marker line)
    → oldest_marker m.pending ≡ Some (record { place = position_or_len is_marker m.pending; line = line })
marker_placed m line h =
    let from : 0 + position_or_len is_marker m.pending ≡ position_or_len is_marker m.pending = omega arith in
    oldest_marker_is 0 line m.pending h ∙ ap (λ k. Some (record { place = k; line = line })) from

there_test : (count line : ℕ) → line < count → nat_le count line ≡ false
there_test count line h = grind (arith, nat_tests)

-- the oldest, at its place
abbrev placed_write : ℕ → ℕ → ℕ → List PendingEntry → PlacedWrite
placed_write line word value ws = record { place = position_or_len (is_write_on line) ws; word = word; value = value }

abbrev placed_marker : ℕ → List PendingEntry → PlacedMarker
placed_marker line ws = record { place = position_or_len is_marker ws; line = line }

abbrev write_free : Memory → Option PlacedWrite → Result PlacedWrite PendingFault
write_free m oldest = required NoPending oldest >>= λ w. refuse BehindMarker (list_any is_marker (take w.place m.pending)) >>= λ free. Ok w

abbrev marker_free : Memory → Option PlacedMarker → Result PlacedMarker PendingFault
marker_free m oldest = required NoMarker oldest >>= λ p. refuse MarkerWaits (list_any (is_write_on p.line) (take p.place m.pending)) >>= λ free. Ok p

pub write_refused : (shape : List ℕ) (m : Memory) (line n : ℕ) → line < length shape → n ≡ line → find (is_write_on n) m.pending ≡ None → persisting_write_of shape m line ≡ Err NoPending
write_refused shape m line n h e none =
    rw (there_test (length shape) line h) (ap (write_free m) (oldest_write_none 0 line m.pending (ap (λ k. find (is_write_on k) m.pending) (sym e) ∙ none)))

pub write_behind : (shape : List ℕ) (m : Memory) (line n word value : ℕ) → line < length shape → n ≡ line → find (is_write_on n) m.pending ≡ Some (Write word value)
    → list_any is_marker (before_first (is_write_on n) m.pending) ≡ true → persisting_write_of shape m line ≡ Err BehindMarker
write_behind shape m line n word value h e found behind =
    let first : find (is_write_on line) m.pending ≡ Some (Write word value) = ap (λ k. find (is_write_on k) m.pending) (sym e) ∙ found in
    let stands : list_any is_marker (before_first (is_write_on line) m.pending) ≡ true = ap (λ k. list_any is_marker (before_first (is_write_on k) m.pending)) (sym e) ∙ behind in
    rw (there_test (length shape) line h) (ap (write_free m) (write_placed m line word value first) ∙ rw stands refl)

write_on_kept : (m : Memory) (line word value : ℕ) → IsNextWrite line word value m.pending → persisting_write_on m line ≡ Ok (placed_write line word value m.pending)
write_on_kept m line word value next = ap (write_free m) (write_placed m line word value next.oldest) ∙ rw next.free refl

pub marker_refused : (m : Memory) → find is_marker m.pending ≡ None → settling_marker_of m ≡ Err NoMarker
marker_refused m none = ap (marker_free m) (oldest_marker_none 0 m.pending none)

pub marker_waits : (m : Memory) (line : ℕ) → find is_marker m.pending ≡ Some (Marker line) → list_any (is_write_on line) (before_first is_marker m.pending) ≡ true
    → settling_marker_of m ≡ Err MarkerWaits
marker_waits m line found waits = ap (marker_free m) (marker_placed m line found) ∙ rw waits refl

marker_kept : (m : Memory) (line : ℕ) → IsNextMarker line m.pending → settling_marker_of m ≡ Ok (placed_marker line m.pending)
marker_kept m line next = ap (marker_free m) (marker_placed m line next.oldest) ∙ rw next.free refl

-- a write that persists next is on its line
next_on_line : (line word value : ℕ) (ws : List PendingEntry) → IsNextWrite line word value ws → line_of word ≡ line
next_on_line line word value ws next = eqb-true (line_of word) line (find_passes (is_write_on line) ws (Write word value) next.oldest)

pub next_write_there : (line word value : ℕ) (ws : List PendingEntry) → IsNextWrite line word value ws → IsSome (find (is_write_on (line_of word)) ws)
next_write_there line word value ws next = rw (next_on_line line word value ws next, next.oldest) refl

-- the list that persisting leaves
left_is : (line word value : ℕ) (ws left : List PendingEntry) → IsNextWrite line word value ws → left ≡ drop_first (is_write_on (line_of word)) ws
    → remove ws (position_or_len (is_write_on line) ws) ≡ left
left_is line word value ws left next e =
    remove_first (is_write_on line) ws (Write word value) next.oldest ∙ (ap (λ k. drop_first (is_write_on k) ws) (sym (next_on_line line word value ws next)) ∙ sym e)

pub persist_on_kept : (m : Memory) (line word value : ℕ) (left : List PendingEntry) → IsNextWrite line word value m.pending → left ≡ drop_first (is_write_on (line_of word)) m.pending
    → persist_on m line ≡ Ok ((word, value), record { pending = left; persisted = slice_set m.persisted word value })
persist_on_kept m line word value left next e =
    ap (λ (r : Result PlacedWrite PendingFault). r >>= λ w. Ok (after_persist m w)) (write_on_kept m line word value next)
    ∙ ap (λ ys. Ok ((word, value), record { pending = ys; persisted = slice_set m.persisted word value })) (left_is line word value m.pending left next e)

pub persist_kept : (shape : List ℕ) (m : Memory) (line word value : ℕ) (left : List PendingEntry) → line < length shape → IsNextWrite line word value m.pending
    → left ≡ drop_first (is_write_on (line_of word)) m.pending → persist_of shape m line ≡ Ok ((word, value), record { pending = left; persisted = slice_set m.persisted word value })
persist_kept shape m line word value left h next e = rw (there_test (length shape) line h) (persist_on_kept m line word value left next e)

pub settle_kept : (m : Memory) (line : ℕ) (left : List PendingEntry) → IsNextMarker line m.pending → left ≡ drop_first is_marker m.pending
    → settle_of m ≡ Ok (line, record { pending = left; persisted = m.persisted })
settle_kept m line left next e =
    ap (λ (r : Result PlacedMarker PendingFault). r >>= λ p. Ok (p.line, with_pending m (remove m.pending p.place))) (marker_kept m line next)
    ∙ ap (λ ys. Ok (line, record { pending = ys; persisted = m.persisted })) (remove_first is_marker m.pending (Marker line) next.oldest ∙ sym e)

-- whether it would be accepted
pub persist_accepted : (shape : List ℕ) (m : Memory) (line word value : ℕ) → line < length shape → IsNextWrite line word value m.pending → Ok tt ≡ tested (persist_of shape m line)
persist_accepted shape m line word value h next = sym (ap tested (persist_kept shape m line word value (drop_first (is_write_on (line_of word)) m.pending) h next refl))

pub settle_accepted : (m : Memory) (line : ℕ) → IsNextMarker line m.pending → Ok tt ≡ tested (settle_of m)
settle_accepted m line next = sym (ap tested (settle_kept m line (drop_first is_marker m.pending) next refl))
