-- What changes reach, what cuts leave, and what closed sets leave.
use Rattle.std.proofs.Common.{◌↔◌, ℕ, ◌+◌, ◌≤◌, Bool, List, [], ◌∷◌, refl, ap, sym, subst, ◌∙◌, arith}
use Rattle.lines_layout.specs.Lines.{line_of}
use Rattle.persist_buffer.specs.declared.entry.PendingEntry.{PendingEntry}
use Rattle.persist_buffer.specs.declared.entry.PendingEntry.TheVariants.{Write, Marker}
use Rattle.persist_buffer.specs.State.{Memory}
use Rattle.persist_buffer.specs.Listings.{LinesBelow}
use Rattle.pending_images.specs.Changes.{IsReached}
use Rattle.pending_images.specs.ClosedSets.{IsLeftByClosedSet, flagged}
use Rattle.pending_images.specs.Cuts.{IsLeftByCut, written}
use Rattle.pending_images.specs.Images.{IsImage, image_at}
use Rattle.pending_images.specs.LeastSets.{IsLeaving}
use Rattle.pending_images.proofs.LeavingEntries.{IsLeft}
use Rattle.pending_images.proofs.CutOfRun.{cut_of_run}
use Rattle.pending_images.proofs.ClosedSetOfCut.{chosen}
use Rattle.pending_images.proofs.ClosedSetsByEntry.{closed_of, none_is_left}
use Rattle.pending_images.proofs.ClosedSetsCanLeave.{image_of_closed}
use Rattle.pending_images.proofs.ChangesAreLeavingEntries.{reached_is_left, left_is_reached}

cut_from_left : (lines : ℕ) (m : Memory) (persisted : List ℕ) → LinesBelow lines m.pending → IsLeft m persisted → IsLeftByCut lines m persisted
cut_from_left lines m persisted below (n, end, run, is) =
    let (k, count, cut, same) = cut_of_run lines n m end below run in (k, count, cut, sym is ∙ same)

closed_from_cut : (lines : ℕ) (m : Memory) (persisted : List ℕ) → LinesBelow lines m.pending → IsLeftByCut lines m persisted → IsLeftByClosedSet m persisted
closed_from_cut lines m persisted below (k, count, cut, is) =
    let set = chosen m.pending k count cut in (set.flags, closed_of m.pending set.flags set.closed, is ∙ sym (set.gives lines m.persisted below))

left_from_closed : (m : Memory) (persisted : List ℕ) → IsLeftByClosedSet m persisted → IsLeft m persisted
left_from_closed m persisted (flags, closed, is) = subst (IsLeft m) (sym is) (image_of_closed m flags (none_is_left m.pending flags closed))

pub cut_law : (lines : ℕ) (m : Memory) (persisted : List ℕ) → LinesBelow lines m.pending → IsReached m persisted ↔ IsLeftByCut lines m persisted
cut_law lines m persisted below = (
  (λ h. cut_from_left lines m persisted below (reached_is_left m persisted h)),
  (λ h. left_is_reached m persisted (left_from_closed m persisted (closed_from_cut lines m persisted below h))),
)

-- lines below a number are below a greater one
more_lines : (few many : ℕ) (es : List PendingEntry) → few ≤ many → LinesBelow few es → LinesBelow many es
more_lines few many [] within below = tt
more_lines few many (Write word value ∷ es) within below = (omega (arith, below.0, within), more_lines few many es within below.1)
more_lines few many (Marker line ∷ es) within below = more_lines few many es within below

-- the lines of any entries are below some number
some_lines : (es : List PendingEntry) → (lines : ℕ) × LinesBelow lines es
some_lines [] = (0, tt)
some_lines (Write word value ∷ es) =
    let (lines, below) = some_lines es in (lines + line_of word + 1, (omega arith, more_lines lines (lines + line_of word + 1) es (omega arith) below))
some_lines (Marker line ∷ es) = some_lines es

pub closed_law : (m : Memory) (persisted : List ℕ) → IsReached m persisted ↔ IsLeftByClosedSet m persisted
closed_law m persisted =
    let (lines, below) = some_lines m.pending in (
      (λ h. closed_from_cut lines m persisted below (cut_from_left lines m persisted below (reached_is_left m persisted h))),
      (λ h. left_is_reached m persisted (left_from_closed m persisted h)),
    )

-- the same of an image
pub set_is_image : (shape : List ℕ) (m : Memory) (image : List ℕ) (flags : List Bool) → IsLeaving shape m image flags → IsImage shape m image
set_is_image shape m image flags l = (written (flagged m.pending flags) m.persisted, (closed_law m (written (flagged m.pending flags) m.persisted)).1 (flags, l.closed, refl), l.leaves)

pub leaving_law : (shape : List ℕ) (m : Memory) (image : List ℕ) → IsImage shape m image ↔ ((flags : List Bool) × IsLeaving shape m image flags)
leaving_law shape m image = (
  (λ h. let (persisted, reached, shown) = h in let (flags, closed, is) = (closed_law m persisted).0 reached in (flags, record { closed = closed; leaves = shown ∙ ap (image_at shape) is })),
  (λ h. set_is_image shape m image h.0 h.1),
)
