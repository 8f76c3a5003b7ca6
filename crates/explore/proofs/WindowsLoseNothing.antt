-- A program may be cut at a fence, and it has a memory for each fence and one for the end.
use Rattle.std.proofs.Common.{◌≡◌, ℕ, suc, ◌+◌, inl, inr, true, false, List, [], ◌∷◌, ◌++◌, length, map, refl, sym, ap, subst, ◌∙◌, true≢false, arith}
use Rattle.std.specs.Prelude.{◌⊎◌, ◌↔◌}
use Rattle.std.specs.List.{list_any}
use Rattle.std.proofs.lemmas.List.{append_assoc, append-nil}
use Rattle.lines_layout.specs.Lines.{line_of}
use Rattle.store_buffer.specs.declared.entry.Entry.{Entry}
use Rattle.store_buffer.specs.declared.entry.Entry.TheVariants as entries
use Rattle.persist_buffer.specs.declared.entry.PendingEntry.{PendingEntry}
use Rattle.persist_buffer.specs.declared.entry.PendingEntry.TheVariants.{Write, Marker}
use Rattle.persist_buffer.specs.State.{Memory}
use Rattle.explore.specs.Canonical.{MayLeave, no_line}
use Rattle.explore.specs.declared.event.Event.{Event}
use Rattle.explore.specs.declared.event.Event.TheVariants.{Delayed, Waited, LockedWrite}
use Rattle.explore.specs.FenceMemories.{IsReachedInOne, entries_of, entries_of_event, fence_memories, fences_in, is_fence, is_flushed, memories_from, pending_in, stored_again, unflushed, with_flushed}
use Rattle.explore.specs.StraightLine.{IsLeftBy, nothing_pending}
use Rattle.explore.proofs.LeftByEntries.{may_leave_reached, reached_may_leave}
use Rattle.explore.proofs.DominatedLists.{goes_on}
use Rattle.explore.proofs.LateListsAreRun.{left_in_one}
use Rattle.explore.proofs.MemoriesAtFences.{are_writes, unflushed_writes, writes_are_window}
use Rattle.explore.proofs.ProgramWindows.{is_window}

-- ---- the entries of a program

entries_join : (xs ys : List Event) → entries_of (xs ++ ys) ≡ entries_of xs ++ entries_of ys
entries_join [] ys = refl
entries_join (x ∷ xs) ys = ap (λ (es : List Entry). entries_of_event x ++ es) (entries_join xs ys) ∙ sym (append_assoc (entries_of_event x) (entries_of xs) (entries_of ys))

window_entries : (events : List Event) → list_any is_fence events ≡ false → is_window (entries_of events) ≡ true
window_entries [] none = refl
window_entries (Delayed (entries.Write word value) ∷ later) none = window_entries later none
window_entries (Delayed (entries.Flush line) ∷ later) none = window_entries later none
window_entries (Delayed (entries.FlushOpt line) ∷ later) none = window_entries later none
window_entries (Delayed entries.Sfence ∷ later) none = absurd (true≢false none)
window_entries (Waited ∷ later) none = absurd (true≢false none)
window_entries (LockedWrite word value ∷ later) none = absurd (true≢false none)

-- those of a fence begin with an sfence
fence_entries : (event : Event) → is_fence event ≡ true → (more : List Entry) × (entries_of_event event ≡ entries.Sfence ∷ more)
fence_entries (Delayed (entries.Write word value)) is = absurd (true≢false (sym is))
fence_entries (Delayed (entries.Flush line)) is = absurd (true≢false (sym is))
fence_entries (Delayed (entries.FlushOpt line)) is = absurd (true≢false (sym is))
fence_entries (Delayed entries.Sfence) is = ([], refl)
fence_entries Waited is = ([], refl)
fence_entries (LockedWrite word value) is = (entries.Write word value ∷ [], refl)

entries_again : (es : List Entry) → entries_of (map Delayed es) ≡ es
entries_again [] = refl
entries_again (e ∷ es) = ap (λ (xs : List Entry). e ∷ xs) (entries_again es)

-- ---- writes that nothing flushes

nothing_flushed : (line : ℕ) (es : List Entry) → are_writes es ≡ true → is_flushed line es ≡ false
nothing_flushed line [] h = refl
nothing_flushed line (entries.Write word value ∷ es) h = nothing_flushed line es h
nothing_flushed line (entries.Flush other ∷ es) h = absurd (true≢false (sym h))
nothing_flushed line (entries.FlushOpt other ∷ es) h = absurd (true≢false (sym h))
nothing_flushed line (entries.Sfence ∷ es) h = absurd (true≢false (sym h))

writes_stay : (es : List Entry) → are_writes es ≡ true → unflushed es ≡ es
writes_stay [] h = refl
writes_stay (entries.Write word value ∷ es) h = rw (nothing_flushed (line_of word) es h) (ap (λ (xs : List Entry). entries.Write word value ∷ xs) (writes_stay es h))
writes_stay (entries.Flush line ∷ es) h = absurd (true≢false (sym h))
writes_stay (entries.FlushOpt line ∷ es) h = absurd (true≢false (sym h))
writes_stay (entries.Sfence ∷ es) h = absurd (true≢false (sym h))

nothing_persists : (es : List Entry) (old : List ℕ) → are_writes es ≡ true → with_flushed es old ≡ old
nothing_persists [] old h = refl
nothing_persists (entries.Write word value ∷ es) old h = rw (nothing_flushed (line_of word) es h) (nothing_persists es old h)
nothing_persists (entries.Flush line ∷ es) old h = absurd (true≢false (sym h))
nothing_persists (entries.FlushOpt line ∷ es) old h = absurd (true≢false (sym h))
nothing_persists (entries.Sfence ∷ es) old h = absurd (true≢false (sym h))

-- ---- a window is read

read_window : (window es rest : List Entry) (old : List ℕ) → is_window es ≡ true → memories_from window (es ++ rest) old ≡ memories_from (window ++ es) rest old
read_window window [] rest old is = ap (λ (w : List Entry). memories_from w rest old) (sym (append-nil window))
read_window window (entries.Write word value ∷ es) rest old is =
    read_window (window ++ entries.Write word value ∷ []) es rest old is ∙ ap (λ (w : List Entry). memories_from w rest old) (append_assoc window (entries.Write word value ∷ []) es)
read_window window (entries.Flush line ∷ es) rest old is =
    read_window (window ++ entries.Flush line ∷ []) es rest old is ∙ ap (λ (w : List Entry). memories_from w rest old) (append_assoc window (entries.Flush line ∷ []) es)
read_window window (entries.FlushOpt line ∷ es) rest old is =
    read_window (window ++ entries.FlushOpt line ∷ []) es rest old is ∙ ap (λ (w : List Entry). memories_from w rest old) (append_assoc window (entries.FlushOpt line ∷ []) es)
read_window window (entries.Sfence ∷ es) rest old is = absurd (true≢false (sym is))

pending_join : (xs ys : List Entry) → pending_in (xs ++ ys) ≡ pending_in xs ++ pending_in ys
pending_join [] ys = refl
pending_join (entries.Write word value ∷ xs) ys = ap (λ (ps : List PendingEntry). Write word value ∷ ps) (pending_join xs ys)
pending_join (entries.Flush line ∷ xs) ys = ap (λ (ps : List PendingEntry). Marker line ∷ ps) (pending_join xs ys)
pending_join (entries.FlushOpt line ∷ xs) ys = pending_join xs ys
pending_join (entries.Sfence ∷ xs) ys = pending_join xs ys

longer : (window : List Entry) (entry : Entry) (old new : List ℕ) → MayLeave no_line (pending_in window) old new → MayLeave no_line (pending_in (window ++ entry ∷ [])) old new
longer window entry old new may =
    subst (λ (ps : List PendingEntry). MayLeave no_line ps old new) (sym (pending_join window (entry ∷ []))) (goes_on (pending_in window) (pending_in (entry ∷ [])) no_line old new may)

-- what is pending at the beginning of a window is pending at its end
found_later : (window es : List Entry) (old new : List ℕ) → MayLeave no_line (pending_in window) old new → IsReachedInOne (memories_from window es old) new
found_later window [] old new may = inl (may_leave_reached (record { pending = pending_in window; persisted = old }) new may)
found_later window (entries.Write word value ∷ es) old new may = found_later (window ++ entries.Write word value ∷ []) es old new (longer window (entries.Write word value) old new may)
found_later window (entries.Flush line ∷ es) old new may = found_later (window ++ entries.Flush line ∷ []) es old new (longer window (entries.Flush line) old new may)
found_later window (entries.FlushOpt line ∷ es) old new may = found_later (window ++ entries.FlushOpt line ∷ []) es old new (longer window (entries.FlushOpt line) old new may)
found_later window (entries.Sfence ∷ es) old new may = inl (may_leave_reached (record { pending = pending_in window; persisted = old }) new may)

-- ---- the law

module _ (window rest : List Entry) (old new : List ℕ) (is : is_window window ≡ true) where
  abbrev again : List Entry
  again = unflushed window

  abbrev after : List ℕ
  after = with_flushed window old

  abbrev whole : List Memory
  whole = memories_from [] (window ++ entries.Sfence ∷ rest) old

  abbrev beginning : List Memory
  beginning = memories_from [] window old

  abbrev others : List Memory
  others = memories_from [] (again ++ entries.Sfence ∷ rest) after

  at_fence : whole ≡ record { pending = pending_in window; persisted = old } ∷ memories_from again rest after
  at_fence = read_window [] window (entries.Sfence ∷ rest) old is

  before_fence : beginning ≡ record { pending = pending_in window; persisted = old } ∷ []
  before_fence = ap (λ (es : List Entry). memories_from [] es old) (sym (append-nil window)) ∙ read_window [] window [] old is

  after_fence : others ≡ record { pending = pending_in again; persisted = after } ∷ memories_from again rest after
  after_fence =
      let writes = unflushed_writes window in
      read_window [] again (entries.Sfence ∷ rest) after (writes_are_window again writes)
      ∙ (λ k. record { pending = pending_in again; persisted = after } ∷ memories_from (writes_stay again writes k) rest (nothing_persists again after writes k))

  cut : IsReachedInOne whole new → IsReachedInOne beginning new ⊎ IsReachedInOne others new
  cut reached = elim (subst (λ (ms : List Memory). IsReachedInOne ms new) at_fence reached) [
    | inl here ↦ inl (subst (λ (ms : List Memory). IsReachedInOne ms new) (sym before_fence) (inl here))
    | inr more ↦ inr (subst (λ (ms : List Memory). IsReachedInOne ms new) (sym after_fence) (inr more))
  ]

  join : IsReachedInOne beginning new ⊎ IsReachedInOne others new → IsReachedInOne whole new
  join (inl reached) = subst (λ (ms : List Memory). IsReachedInOne ms new) (sym at_fence) (elim (subst (λ (ms : List Memory). IsReachedInOne ms new) before_fence reached) [
    | inl here ↦ inl here
    | inr none ↦ absurd none
  ])
  join (inr reached) = subst (λ (ms : List Memory). IsReachedInOne ms new) (sym at_fence) (inr (elim (subst (λ (ms : List Memory). IsReachedInOne ms new) after_fence reached) [
    | inl here ↦ found_later again rest after new (reached_may_leave (record { pending = pending_in again; persisted = after }) new here)
    | inr more ↦ more
  ]))

pub windows_join : (window rest : List Event) (fence : Event) (old persisted : List ℕ) → list_any is_fence window ≡ false → is_fence fence ≡ true
    → (IsLeftBy (window ++ fence ∷ rest) (nothing_pending old) persisted) ↔ ((IsLeftBy window (nothing_pending old) persisted)
    ⊎ IsLeftBy (stored_again window ++ fence ∷ rest) (nothing_pending (with_flushed (entries_of window) old)) persisted)
windows_join window rest fence old persisted none is =
    let es = entries_of window in
    let fenced = fence_entries fence is in
    let tail = fenced.0 ++ entries_of rest in
    let later = with_flushed es old in
    let all : entries_of (window ++ fence ∷ rest) ≡ es ++ entries.Sfence ∷ tail =
    entries_join window (fence ∷ rest) ∙ ap (λ (xs : List Entry). es ++ (xs ++ entries_of rest)) fenced.1 in
    let again : entries_of (stored_again window ++ fence ∷ rest) ≡ unflushed es ++ entries.Sfence ∷ tail =
    entries_join (stored_again window) (fence ∷ rest) ∙ (λ k. entries_again (unflushed es) k ++ (fenced.1 k ++ entries_of rest)) in
    let by_whole = left_in_one (window ++ fence ∷ rest) old persisted in
    let by_beginning = left_in_one window old persisted in
    let by_others = left_in_one (stored_again window ++ fence ∷ rest) later persisted in (
      (λ left. elim (cut es tail old persisted (window_entries window none) (subst (λ (xs : List Entry). IsReachedInOne (memories_from [] xs old) persisted) all (by_whole.0 left))) [
        | inl first ↦ inl (by_beginning.1 first)
        | inr second ↦ inr (by_others.1 (subst (λ (xs : List Entry). IsReachedInOne (memories_from [] xs later) persisted) (sym again) second))
      ]),
      (λ parts. by_whole.1 (subst (λ (xs : List Entry). IsReachedInOne (memories_from [] xs old) persisted) (sym all) (join es tail old persisted (window_entries window none) (elim parts [
        | inl first ↦ inl (by_beginning.0 first)
        | inr second ↦ inr (subst (λ (xs : List Entry). IsReachedInOne (memories_from [] xs later) persisted) again (by_others.0 second))
      ])))),
    )

-- ---- how many there are

abbrev sfences : List Entry → ℕ
sfences [] = 0
sfences (entries.Write word value ∷ es) = sfences es
sfences (entries.Flush line ∷ es) = sfences es
sfences (entries.FlushOpt line ∷ es) = sfences es
sfences (entries.Sfence ∷ es) = suc (sfences es)

memories_counted : (window es : List Entry) (old : List ℕ) → length (memories_from window es old) ≡ suc (sfences es)
memories_counted window [] old = refl
memories_counted window (entries.Write word value ∷ es) old = memories_counted (window ++ entries.Write word value ∷ []) es old
memories_counted window (entries.Flush line ∷ es) old = memories_counted (window ++ entries.Flush line ∷ []) es old
memories_counted window (entries.FlushOpt line ∷ es) old = memories_counted (window ++ entries.FlushOpt line ∷ []) es old
memories_counted window (entries.Sfence ∷ es) old = ap suc (memories_counted (unflushed window) es (with_flushed window old))

fences_counted : (events : List Event) → sfences (entries_of events) ≡ fences_in events
fences_counted [] = refl
fences_counted (Delayed (entries.Write word value) ∷ later) = fences_counted later
fences_counted (Delayed (entries.Flush line) ∷ later) = fences_counted later
fences_counted (Delayed (entries.FlushOpt line) ∷ later) = fences_counted later
fences_counted (Delayed entries.Sfence ∷ later) = ap suc (fences_counted later)
fences_counted (Waited ∷ later) = ap suc (fences_counted later)
fences_counted (LockedWrite word value ∷ later) = ap suc (fences_counted later)

pub counted : (events : List Event) (old : List ℕ) → length (fence_memories events old) ≡ fences_in events + 1
counted events old = let found = memories_counted [] (entries_of events) old in let fences = fences_counted events in omega (arith, found, fences)
