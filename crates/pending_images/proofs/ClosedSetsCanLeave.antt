-- A closed set can leave, one entry after another.
use Rattle.std.proofs.Common.{◌≡◌, ℕ, zero, suc, Bool, true, false, List, [], ◌∷◌, ◌++◌, refl, sym, ◌∙◌, append_assoc}
use Rattle.std.specs.List.{AllByRecursion}
use Rattle.persist_buffer.specs.declared.entry.PendingEntry.{PendingEntry}
use Rattle.pending_images.proofs.LeavingEntries.{IsFree, IsLeft, Leaves}
use Rattle.pending_images.specs.ClosedSets.{flagged, line_named}
use Rattle.pending_images.proofs.ClosedSetsByEntry.{NoneIsLeft, NoneWaits}
use Rattle.pending_images.specs.Cuts.{after, written}
use Rattle.persist_buffer.specs.State.{Memory}

-- an image of what a change leaves is an image
pub image_after : (old new : Memory) (image : List ℕ) → Leaves old new → IsLeft new image → IsLeft old image
image_after old new image change (n, end, run, is) = (suc n, end, (new, change, run), is)

free_now : (e : PendingEntry) (es : List PendingEntry) (flags : List Bool) (skipped : List PendingEntry) → AllByRecursion (λ f. NoneWaits f (e ∷ es) (true ∷ flags)) skipped → IsFree (line_named e) skipped
free_now e es flags [] h = tt
free_now e es flags (f ∷ fs) h = (h.0.0, free_now e es flags fs h.1)

free_later : (e : PendingEntry) (es : List PendingEntry) (flags : List Bool) (skipped : List PendingEntry) → AllByRecursion (λ f. NoneWaits f (e ∷ es) (true ∷ flags)) skipped → AllByRecursion (λ f. NoneWaits f es flags) skipped
free_later e es flags [] h = tt
free_later e es flags (f ∷ fs) h = (h.0.1, free_later e es flags fs h.1)

one_more : (P : PendingEntry → Type 0) (e : PendingEntry) (skipped : List PendingEntry) → AllByRecursion P skipped → P e → AllByRecursion P (skipped ++ e ∷ [])
one_more P e [] h p = (p, tt)
one_more P e (f ∷ fs) h p = (h.0, one_more P e fs h.1 p)

-- the entries with a true flag can leave past those that were skipped, none of which they wait for
leaves_past : (es : List PendingEntry) (flags : List Bool) (skipped : List PendingEntry) (m : Memory) → m.pending ≡ skipped ++ es → AllByRecursion (λ f. NoneWaits f es flags) skipped → NoneIsLeft es flags → IsLeft m (written (flagged es flags) m.persisted)
leaves_past [] flags skipped m is past closed = (zero, m, refl, refl)
leaves_past (e ∷ es) [] skipped m is past closed = (zero, m, refl, refl)
leaves_past (e ∷ es) (true ∷ flags) skipped m is past closed =
    let mid : Memory = record { pending = skipped ++ es; persisted = after e m.persisted } in
    let change : Leaves m mid = record { earlier = skipped; entry = e; later = es; pending_was = is; free = free_now e es flags skipped past; pending_is = refl; persisted_is = refl } in
    image_after m mid _ change (leaves_past es flags skipped mid refl (free_later e es flags skipped past) closed)
leaves_past (e ∷ es) (false ∷ flags) skipped m is past closed =
    leaves_past es flags (skipped ++ e ∷ []) m (is ∙ sym (append_assoc skipped (e ∷ []) es)) (one_more (λ f. NoneWaits f es flags) e skipped past closed.0) closed.1

-- what a closed set of entries gives is an image
pub image_of_closed : (m : Memory) (flags : List Bool) → NoneIsLeft m.pending flags → IsLeft m (written (flagged m.pending flags) m.persisted)
image_of_closed m flags closed = leaves_past m.pending flags [] m refl tt closed
