-- A change is an entry that leaves.
use Rattle.std.proofs.Common.{◌≡◌, ℕ, zero, suc, true, false, ◌==◌, ◌||◌, List, [], ◌∷◌, ◌++◌, refl, sym, subst, true≢false}
use Rattle.std.specs.List.{list_any}
use Rattle.lines_layout.specs.Lines.{line_of}
use Rattle.persist_buffer.specs.declared.entry.PendingEntry.{PendingEntry}
use Rattle.persist_buffer.specs.declared.entry.PendingEntry.TheVariants.{Write, Marker}
use Rattle.persist_buffer.proofs.PersistingIsASplit.{persisting_only, persisting_always, settling_only, settling_always}
use Rattle.pending_images.proofs.LeavingEntries.{IsFree, IsLeft, Leaves, Leaving}
use Rattle.pending_images.specs.Candidates.{before}
use Rattle.pending_images.specs.Changes.{Change, IsReached, Run, persists, settles}
use Rattle.pending_images.specs.ClosedSets.{line_named}
use Rattle.pending_images.specs.Cuts.{after}
use Rattle.persist_buffer.specs.Memories.{is_marker, is_write_on}
use Rattle.persist_buffer.specs.State.{Memory}

-- no marker and no write of the line is just nothing that holds back
free_of : (line : ℕ) (es : List PendingEntry) → list_any is_marker es ≡ false → list_any (is_write_on line) es ≡ false → IsFree line es
free_of line [] none unwritten = tt
free_of line (Write word value ∷ es) none unwritten = elim (line_of word == line) as (λ b. (b || list_any (is_write_on line) es ≡ false) → (b ≡ false) × IsFree line es) [ true ↦ λ h. absurd (true≢false h) | false ↦ λ h. (refl, free_of line es none h) ] unwritten
free_of line (Marker other ∷ es) none unwritten = absurd (true≢false none)

no_marker_of : (line : ℕ) (es : List PendingEntry) → IsFree line es → list_any is_marker es ≡ false
no_marker_of line [] free = refl
no_marker_of line (Write word value ∷ es) free = no_marker_of line es free.1
no_marker_of line (Marker other ∷ es) free = absurd (true≢false free.0)

no_write_of : (line : ℕ) (es : List PendingEntry) → IsFree line es → list_any (is_write_on line) es ≡ false
no_write_of line [] free = refl
no_write_of line (Write word value ∷ es) free = rw (free.0) (no_write_of line es free.1)
no_write_of line (Marker other ∷ es) free = absurd (true≢false free.0)

pub leaves_of : (old new : Memory) → Change old new → Leaves old new
leaves_of old new (persists line word value e) =
    let (before, later, split) = persisting_only line old new word value e in record {
      earlier = before;
      entry = Write word value;
      later = later;
      pending_was = split.whole;
      free = subst (λ (l : ℕ). IsFree l before) (sym split.on_line) (free_of line before split.no_marker split.no_write);
      pending_is = split.rest;
      persisted_is = split.persisted;
    }
leaves_of old new (settles line e) =
    let (before, later, split) = settling_only old new line e in record {
      earlier = before;
      entry = Marker line;
      later = later;
      pending_was = split.whole;
      free = free_of line before split.no_marker split.no_write;
      pending_is = split.rest;
      persisted_is = split.persisted;
    }

change_by : (old new : Memory) (earlier later : List PendingEntry) (entry : PendingEntry) → old.pending ≡ earlier ++ entry ∷ later → IsFree (line_named entry) earlier
    → new.pending ≡ earlier ++ later → new.persisted ≡ after entry old.persisted → Change old new
change_by old new earlier later (Write word value) was free rest persisted =
    persists (line_of word) word value (persisting_always (line_of word) old new word value earlier later (record {
      on_line = refl;
      whole = was;
      no_marker = no_marker_of (line_of word) earlier free;
      no_write = no_write_of (line_of word) earlier free;
      rest = rest;
      persisted = persisted;
    }))
change_by old new earlier later (Marker line) was free rest persisted =
    settles line (settling_always line old new earlier later (record {
      whole = was;
      no_marker = no_marker_of line earlier free;
      no_write = no_write_of line earlier free;
      rest = rest;
      persisted = persisted;
    }))

pub change_of : (old new : Memory) → Leaves old new → Change old new
change_of old new l = change_by old new l.earlier l.later l.entry l.pending_was l.free l.pending_is l.persisted_is

pub leaving_of : (n : ℕ) (old new : Memory) → Run n old new → Leaving n old new
leaving_of zero old new e = e
leaving_of (suc n) old new (mid, change, run) = (mid, leaves_of old mid change, leaving_of n mid new run)

pub run_of_leaving : (n : ℕ) (old new : Memory) → Leaving n old new → Run n old new
run_of_leaving zero old new e = e
run_of_leaving (suc n) old new (mid, change, run) = (mid, change_of old mid change, run_of_leaving n mid new run)

pub reached_is_left : (m : Memory) (image : List ℕ) → IsReached m image → IsLeft m image
reached_is_left m image (n, end, run, is) = (n, end, leaving_of n m end run, is)

pub left_is_reached : (m : Memory) (image : List ℕ) → IsLeft m image → IsReached m image
left_is_reached m image (n, end, run, is) = (n, end, run_of_leaving n m end run, is)
