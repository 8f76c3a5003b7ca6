-- Persisting and settling split the pending list.
use Rattle.std.proofs.Common.{◌≡◌, ℕ, suc, ◌+◌, true, false, eqb, Option, Some, None, Result, Ok, Err, List, [], ◌∷◌, ◌++◌, length, take, drop, refl, sym, ◌∙◌, ap, subst, arith, inl, inr, add-zero}
use Rattle.std.specs.Prelude.{remove, slice_set}
use Rattle.std.specs.List.{list_any}
use Rattle.std.proofs.lemmas.Bool.{cases_Bool, eqb-true, eq-eqb, or_parts}
use Rattle.std.proofs.Math.Seq.{take-append_seam}
use Rattle.lines_layout.specs.Lines.{line_of}
use Rattle.persist_buffer.specs.declared.entry.PendingEntry.{PendingEntry}
use Rattle.persist_buffer.specs.declared.entry.PendingEntry.TheVariants.{Write, Marker}
use Rattle.persist_buffer.specs.declared.fault.PendingFault.{PendingFault}
use Rattle.persist_buffer.specs.declared.fault.PendingFault.TheVariants.{NoPending, BehindMarker, NoMarker, MarkerWaits}
use Rattle.persist_buffer.specs.State.{Memory, PlacedWrite, PlacedMarker}
use Rattle.outcomes.specs.Outcomes.{◌>>=◌, refuse, required}
use Rattle.persist_buffer.specs.Memories.{is_write_on, is_marker, with_pending, oldest_write_from, oldest_write, oldest_marker_from, oldest_marker, after_persist, persist_on, settle_of}
use Rattle.persist_buffer.specs.Splits.{PersistSplit, SettleSplit}
use Rattle.outcomes.proofs.PartsOfOutcomes.{answer_of}

-- a list at one of its entries
pub record SplitAt (i place : ℕ) (entries : List PendingEntry) (entry : PendingEntry) (before later : List PendingEntry) : Type 0 where
  pub place_is : place ≡ i + length before
  pub whole : entries ≡ before ++ entry ∷ later

-- a write that was found
pub record WriteFound (i line : ℕ) (entries : List PendingEntry) (found : PlacedWrite) : Type 0 where
  pub before : List PendingEntry
  pub later : List PendingEntry
  pub split : SplitAt i found.place entries (Write found.word found.value) before later
  pub on_line : line_of found.word ≡ line
  pub no_write : list_any (is_write_on line) before ≡ false

-- a marker that was found
pub record MarkerFound (i : ℕ) (entries : List PendingEntry) (found : PlacedMarker) : Type 0 where
  pub before : List PendingEntry
  pub later : List PendingEntry
  pub split : SplitAt i found.place entries (Marker found.line) before later
  pub no_marker : list_any is_marker before ≡ false

at_once : (i : ℕ) → i ≡ i + 0
at_once i = sym (add-zero i)

-- one entry more in front
split_behind : (i place : ℕ) (entries : List PendingEntry) (front entry : PendingEntry) (before later : List PendingEntry)
    → SplitAt (i + 1) place entries entry before later → SplitAt i place (front ∷ entries) entry (front ∷ before) later
split_behind i place entries front entry before later s = record { place_is = omega (arith, s.place_is); whole = ap (λ (xs : List PendingEntry). front ∷ xs) s.whole }

write_behind : (i line : ℕ) (entries : List PendingEntry) (found : PlacedWrite) (front : PendingEntry) → is_write_on line front ≡ false
    → WriteFound (i + 1) line entries found → WriteFound i line (front ∷ entries) found
write_behind i line entries found front other w = record {
  before = front ∷ w.before;
  later = w.later;
  split = split_behind i found.place entries front (Write found.word found.value) w.before w.later w.split;
  on_line = w.on_line;
  no_write = rw (other, w.no_write) refl;
}

same_found : (a b : PlacedWrite) → Some a ≡ Some b → a ≡ b
same_found a b e = cc

found_here : (i line word value : ℕ) (later : List PendingEntry) (found : PlacedWrite) → line_of word ≡ line
    → Some (record { place = i; word = word; value = value }) ≡ Some found → WriteFound i line (Write word value ∷ later) found
found_here i line word value later found on e =
    let same : record { place = i; word = word; value = value } ≡ found = same_found (record { place = i; word = word; value = value }) found e in
    subst (λ (f : PlacedWrite). WriteFound i line (Write word value ∷ later) f) same (record {
      before = [];
      later = later;
      split = record { place_is = at_once i; whole = refl };
      on_line = on;
      no_write = refl;
    })

pub write_found : (i line : ℕ) (entries : List PendingEntry) (found : PlacedWrite) → oldest_write_from i line entries ≡ Some found → WriteFound i line entries found
write_found i line [] found e = absurd (cc)
write_found i line (Write word value ∷ later) found e =
    elim (cases_Bool (eqb (line_of word) line)) [
      | inl on ↦ found_here i line word value later found (eqb-true _ _ on) (rw on at e)
      | inr other ↦ write_behind i line later found (Write word value) other (write_found (i + 1) line later found (rw other at e))
    ]
write_found i line (Marker other ∷ later) found e = write_behind i line later found (Marker other) refl (write_found (i + 1) line later found e)

pub found_write : (i line word value : ℕ) (before later : List PendingEntry) → line_of word ≡ line → list_any (is_write_on line) before ≡ false
    → oldest_write_from i line (before ++ Write word value ∷ later) ≡ Some (record { place = i + length before; word = word; value = value })
found_write i line word value [] later on none =
    let here : eqb (line_of word) line ≡ true = eq-eqb _ _ on in
    rw (here, add-zero) refl
found_write i line word value (Write other v ∷ before) later on none =
    let p = or_parts (is_write_on line (Write other v)) (list_any (is_write_on line) before) none in
    let shift : (i + 1) + length before ≡ i + suc (length before) = omega arith in
    rw p.0 (found_write (i + 1) line word value before later on p.1 ∙ ap (λ (n : ℕ). Some (record { place = n; word = word; value = value })) shift)
found_write i line word value (Marker other ∷ before) later on none =
    let shift : (i + 1) + length before ≡ i + suc (length before) = omega arith in
    found_write (i + 1) line word value before later on none ∙ ap (λ (n : ℕ). Some (record { place = n; word = word; value = value })) shift

marker_behind : (i : ℕ) (entries : List PendingEntry) (found : PlacedMarker) (word value : ℕ)
    → MarkerFound (i + 1) entries found → MarkerFound i (Write word value ∷ entries) found
marker_behind i entries found word value m = record {
  before = Write word value ∷ m.before;
  later = m.later;
  split = split_behind i found.place entries (Write word value) (Marker found.line) m.before m.later m.split;
  no_marker = m.no_marker;
}

marker_here : (i line : ℕ) (later : List PendingEntry) (found : PlacedMarker)
    → Some (record { place = i; line = line }) ≡ Some found → MarkerFound i (Marker line ∷ later) found
marker_here i line later found e =
    let same : record { place = i; line = line } ≡ found = cc in
    subst (λ (f : PlacedMarker). MarkerFound i (Marker line ∷ later) f) same (record {
      before = [];
      later = later;
      split = record { place_is = at_once i; whole = refl };
      no_marker = refl;
    })

pub marker_found : (i : ℕ) (entries : List PendingEntry) (found : PlacedMarker) → oldest_marker_from i entries ≡ Some found → MarkerFound i entries found
marker_found i [] found e = absurd (cc)
marker_found i (Write word value ∷ later) found e = marker_behind i later found word value (marker_found (i + 1) later found e)
marker_found i (Marker line ∷ later) found e = marker_here i line later found e

pub found_marker : (i line : ℕ) (before later : List PendingEntry) → list_any is_marker before ≡ false
    → oldest_marker_from i (before ++ Marker line ∷ later) ≡ Some (record { place = i + length before; line = line })
found_marker i line [] later none = rw add-zero refl
found_marker i line (Write other v ∷ before) later none =
    let shift : (i + 1) + length before ≡ i + suc (length before) = omega arith in
    found_marker (i + 1) line before later none ∙ ap (λ (n : ℕ). Some (record { place = n; line = line })) shift
found_marker i line (Marker other ∷ before) later none = absurd (cc)

-- what stands before a split
take_of : (place : ℕ) (entries before later : List PendingEntry) (entry : PendingEntry) → SplitAt 0 place entries entry before later → take place entries ≡ before
take_of place entries before later entry s =
    let at : place ≡ length before = omega (arith, s.place_is) in
    rw (at, s.whole) (take-append_seam before (entry ∷ later))

drop_suc_seam : (before later : List PendingEntry) (entry : PendingEntry) → drop (suc (length before)) (before ++ entry ∷ later) ≡ later
drop_suc_seam [] later entry = refl
drop_suc_seam (x ∷ before) later entry = drop_suc_seam before later entry

-- what is left without the entry
left_over : (place : ℕ) (entries before later : List PendingEntry) (entry : PendingEntry) → SplitAt 0 place entries entry before later → remove entries place ≡ before ++ later
left_over place entries before later entry s =
    let at : place ≡ length before = omega (arith, s.place_is) in
    rw (at, s.whole, take-append_seam before (entry ∷ later), drop_suc_seam before later entry) refl

at_zero : (entries before later : List PendingEntry) (entry : PendingEntry) → entries ≡ before ++ entry ∷ later → SplitAt 0 (0 + length before) entries entry before later
at_zero entries before later entry e = record { place_is = refl; whole = e }

-- what persisting comes to, where the oldest write is known
abbrev pub persist_with : Memory → Option PlacedWrite → Result ((ℕ × ℕ) × Memory) PendingFault
persist_with m oldest = (required NoPending oldest >>= λ w. refuse BehindMarker (list_any is_marker (take w.place m.pending)) >>= λ free. Ok w)
    >>= λ w. Ok (after_persist m w)

abbrev Persisting : ℕ → Memory → Memory → ℕ → ℕ → Type 0
Persisting line old new word value = (before : List PendingEntry) × (later : List PendingEntry) × PersistSplit line old new word value before later

persisting_free : (line : ℕ) (old new : Memory) (word value : ℕ) (w : PlacedWrite) → WriteFound 0 line old.pending w
    → list_any is_marker (take w.place old.pending) ≡ false
    → ◌≡◌ {A = Result ((ℕ × ℕ) × Memory) PendingFault} (Ok (after_persist old w)) (Ok ((word, value), new))
    → Persisting line old new word value
persisting_free line old new word value w found free e =
    let parts = answer_of (w.word, w.value) (word, value) (after_persist old w).1 new e in
    let after : new ≡ (after_persist old w).1 = parts.1 in
    let split : PersistSplit line old new w.word w.value found.before found.later = record {
      on_line = found.on_line;
      whole = found.split.whole;
      no_marker = rw (take_of w.place old.pending found.before found.later (Write w.word w.value) found.split) at free;
      no_write = found.no_write;
      rest = ap (λ (m : Memory). m.pending) after ∙ left_over w.place old.pending found.before found.later (Write w.word w.value) found.split;
      persisted = ap (λ (m : Memory). m.persisted) after;
    } in
    (found.before, found.later, subst (λ (p : ℕ × ℕ). PersistSplit line old new p.0 p.1 found.before found.later) (sym parts.0) split)

persisting_found : (line : ℕ) (old new : Memory) (word value : ℕ) (oldest : Option PlacedWrite) → oldest_write line old.pending ≡ oldest
    → persist_with old oldest ≡ Ok ((word, value), new) → Persisting line old new word value
persisting_found line old new word value None is e = absurd (cc)
persisting_found line old new word value (Some w) is e =
    elim (cases_Bool (list_any is_marker (take w.place old.pending))) [
      | inl behind ↦ let refused : ◌≡◌ {A = Result ((ℕ × ℕ) × Memory) PendingFault} (Err BehindMarker) (Ok ((word, value), new)) = rw behind at e in absurd (cc)
      | inr free ↦ persisting_free line old new word value w (write_found 0 line old.pending w is) free (rw free at e)
    ]

pub persisting_only : (line : ℕ) (old new : Memory) (word value : ℕ) → persist_on old line ≡ Ok ((word, value), new) → Persisting line old new word value
persisting_only line old new word value e = persisting_found line old new word value (oldest_write line old.pending) refl e

pub persisting_always : (line : ℕ) (old new : Memory) (word value : ℕ) (before later : List PendingEntry)
    → PersistSplit line old new word value before later → persist_on old line ≡ Ok ((word, value), new)
persisting_always line old new word value before later s =
    let split = at_zero old.pending before later (Write word value) s.whole in
    let oldest : oldest_write line old.pending ≡ Some (record { place = 0 + length before; word = word; value = value }) =
    ap (oldest_write line) s.whole ∙ found_write 0 line word value before later s.on_line s.no_write in
    let free : list_any is_marker (take (0 + length before) old.pending) ≡ false = rw (take_of _ _ before later (Write word value) split) s.no_marker in
    let after : record { pending = remove old.pending (0 + length before); persisted = slice_set old.persisted word value } ≡ new =
    rw (left_over _ _ before later (Write word value) split, ← s.rest, ← s.persisted) refl in
    ap (persist_with old) oldest ∙ rw free (ap (λ (m : Memory). Ok ((word, value), m)) after)

-- what settling comes to, where the oldest marker is known
abbrev pub settle_with : Memory → Option PlacedMarker → Result (ℕ × Memory) PendingFault
settle_with m oldest = (required NoMarker oldest >>= λ p. refuse MarkerWaits (list_any (is_write_on p.line) (take p.place m.pending)) >>= λ free. Ok p)
    >>= λ p. Ok (p.line, with_pending m (remove m.pending p.place))

abbrev Settling : Memory → Memory → ℕ → Type 0
Settling old new line = (before : List PendingEntry) × (later : List PendingEntry) × SettleSplit line old new before later

settling_free : (old new : Memory) (line : ℕ) (p : PlacedMarker) → MarkerFound 0 old.pending p
    → list_any (is_write_on p.line) (take p.place old.pending) ≡ false
    → ◌≡◌ {A = Result (ℕ × Memory) PendingFault} (Ok (p.line, with_pending old (remove old.pending p.place))) (Ok (line, new)) → Settling old new line
settling_free old new line p found free e =
    let parts = answer_of p.line line (with_pending old (remove old.pending p.place)) new e in
    let after : new ≡ with_pending old (remove old.pending p.place) = parts.1 in
    let split : SettleSplit p.line old new found.before found.later = record {
      whole = found.split.whole;
      no_marker = found.no_marker;
      no_write = rw (take_of p.place old.pending found.before found.later (Marker p.line) found.split) at free;
      rest = ap (λ (m : Memory). m.pending) after ∙ left_over p.place old.pending found.before found.later (Marker p.line) found.split;
      persisted = ap (λ (m : Memory). m.persisted) after;
    } in
    (found.before, found.later, subst (λ (l : ℕ). SettleSplit l old new found.before found.later) (sym parts.0) split)

settling_found : (old new : Memory) (line : ℕ) (oldest : Option PlacedMarker) → oldest_marker old.pending ≡ oldest
    → settle_with old oldest ≡ Ok (line, new) → Settling old new line
settling_found old new line None is e = absurd (cc)
settling_found old new line (Some p) is e =
    elim (cases_Bool (list_any (is_write_on p.line) (take p.place old.pending))) [
      | inl waits ↦ let refused : ◌≡◌ {A = Result (ℕ × Memory) PendingFault} (Err MarkerWaits) (Ok (line, new)) = rw waits at e in absurd (cc)
      | inr free ↦ settling_free old new line p (marker_found 0 old.pending p is) free (rw free at e)
    ]

pub settling_only : (old new : Memory) (line : ℕ) → settle_of old ≡ Ok (line, new) → Settling old new line
settling_only old new line e = settling_found old new line (oldest_marker old.pending) refl e

pub settling_always : (line : ℕ) (old new : Memory) (before later : List PendingEntry)
    → SettleSplit line old new before later → settle_of old ≡ Ok (line, new)
settling_always line old new before later s =
    let split = at_zero old.pending before later (Marker line) s.whole in
    let oldest : oldest_marker old.pending ≡ Some (record { place = 0 + length before; line = line }) =
    ap oldest_marker s.whole ∙ found_marker 0 line before later s.no_marker in
    let free : list_any (is_write_on line) (take (0 + length before) old.pending) ≡ false = rw (take_of _ _ before later (Marker line) split) s.no_write in
    let after : with_pending old (remove old.pending (0 + length before)) ≡ new =
    rw (left_over _ _ before later (Marker line) split, ← s.rest, ← s.persisted) refl in
    ap (settle_with old) oldest ∙ rw free (ap (λ (m : Memory). Ok (line, m)) after)
