-- That the reason that is told of a missing write is so, said of what the steps of a run show, and of the state to which they lead.
-- (A line is a cache line here.)
use Rattle.std.specs.Prelude.{◌≡◌, ◌≢◌, ◌⊎◌, ℕ, ◌<◌, ◌≤◌, false, Option, Some, None, List, Contains, drop, slice_get}
use Rattle.std.specs.List.{list_any}
use Rattle.lines_layout.specs.Lines.{line_of}
use Rattle.store_buffer.specs.declared.entry.Entry.{Entry}
use Rattle.store_buffer.specs.declared.entry.Entry.TheVariants as entries
use Rattle.persist_buffer.specs.declared.entry.PendingEntry.{PendingEntry}
use Rattle.persist_buffer.specs.declared.entry.PendingEntry.TheVariants.{Write, Marker}
use Rattle.pending_images.specs.LeastCuts.{closed_set_of}
use Rattle.processor.specs.declared.act.Act.TheVariants.{Delay, Locked}
use Rattle.machine.specs.declared.step.Seen.{Seen}
use Rattle.machine.specs.declared.step.Seen.TheVariants.{Ran, Left, Persisted}
use Rattle.machine.specs.State.{State, buffer_at}
use Rattle.image_reasons.specs.declared.entries.Site.{Site}
use Rattle.image_reasons.specs.declared.missing.Missing.{Missing}
use Rattle.image_reasons.specs.declared.missing.Why.{Why}
use Rattle.image_reasons.specs.declared.missing.Why.TheVariants.{InStoreBuffer, StoredAfter, FlushPending, FlushBuffered, FlushBehind, FlushedBefore, NeverFlushed}
use Rattle.image_reasons.specs.Told.{IsRunOf, entry_put, is_crash}

-- ---- what the steps of a run show

-- No step from the n-th on was a crash.
abbrev pub IsSinceCrash : List Seen → ℕ → Type 0
IsSinceCrash run n = list_any is_crash (drop n run) ≡ false

-- An entry of a store buffer is a flush of a line: what it puts into the pending list is a marker of the line.
abbrev pub IsFlush : ℕ → Entry → Type 0
IsFlush line entry = entry_put entry ≡ Some (Marker line)

-- Step n executed a flush of a line.
pub record IsFlushAt (run : List Seen) (line n : ℕ) : Type 0 where
  pub processor : ℕ
  pub place : ℕ
  pub entry : Entry
  pub shown : slice_get run n ≡ Some (Ran processor place (Delay entry))
  pub flush : IsFlush line entry

-- Step n ran the instruction at a site, which puts this entry into the pending list, and no crash came after it.
pub record IsRunSinceCrash (run : List Seen) (n : ℕ) (site : Site) (entry : PendingEntry) : Type 0 where
  pub ran : IsRunOf run n site entry
  pub since : IsSinceCrash run n

-- Since the last crash no step executed a flush of a line.
abbrev pub IsUnflushed : List Seen → ℕ → Type 0
IsUnflushed run line = (n : ℕ) → IsSinceCrash run n → IsFlushAt run line n → ⊥

-- The flush at a site ran since the last crash, and no later step executed a flush of its line.
pub record IsLastFlush (run : List Seen) (line : ℕ) (flush : Site) : Type 0 where
  pub step : ℕ
  pub ran : IsRunSinceCrash run step flush (Marker line)
  pub last : (later : ℕ) → step < later → IsFlushAt run line later → ⊥

-- Step n took an entry out of the store buffer of a processor, and put this into the pending list.
pub record IsLeftAt (run : List Seen) (n processor : ℕ) (entry : PendingEntry) : Type 0 where
  pub place : ℕ
  pub buffered : Entry
  pub shown : slice_get run n ≡ Some (Left processor place buffered)
  pub puts : entry_put buffered ≡ Some entry

-- Step n ran a locked operation of a processor, which wrote this.
pub record IsLockedAt (run : List Seen) (n processor : ℕ) (entry : PendingEntry) : Type 0 where
  pub place : ℕ
  pub word : ℕ
  pub value : ℕ
  pub written : ℕ
  pub shown : slice_get run n ≡ Some (Ran processor place (Locked word value (Some written)))
  pub writes : entry ≡ Write word written

-- In step n a write of a processor took effect.
abbrev pub IsEffectAt : List Seen → ℕ → ℕ → PendingEntry → Type 0
IsEffectAt run n processor entry = IsLeftAt run n processor entry ⊎ IsLockedAt run n processor entry

-- Since the last crash a flush of a line left the store buffer of one processor, and in a later step a write of another, or of the
-- same, took effect.
pub record IsEffectBefore (run : List Seen) (line flusher writer : ℕ) (entry : PendingEntry) : Type 0 where
  pub first : ℕ
  pub next : ℕ
  pub flushed : IsLeftAt run first flusher (Marker line)
  pub since : IsSinceCrash run first
  pub written : IsEffectAt run next writer entry
  pub before : first < next

-- Since the last crash this value of a word was persisted.
pub record HasPersisted (run : List Seen) (word value : ℕ) : Type 0 where
  pub step : ℕ
  pub shown : slice_get run step ≡ Some (Persisted word value)
  pub since : IsSinceCrash run step

-- ---- the state

-- The store buffer of a processor holds a flush of a line.
pub record HoldsFlush (s : State) (line p : ℕ) : Type 0 where
  pub buffer : List Entry
  pub entry : Entry
  pub there : buffer_at s p ≡ Some buffer
  pub held : Contains buffer entry
  pub flush : IsFlush line entry

-- The store buffer of the processor at its site holds a missing write.
pub record HoldsWrite (s : State) (w : Missing) : Type 0 where
  pub buffer : List Entry
  pub there : buffer_at s w.site.processor ≡ Some buffer
  pub held : Contains buffer (entries.Write w.word w.value)

-- A missing write is pending at a place.
abbrev pub IsPendingAt : State → Missing → ℕ → Type 0
IsPendingAt s w place = slice_get s.memory.pending place ≡ Some (Write w.word w.value)

-- A marker of its line is pending behind it.
pub record HasMarkerBehind (s : State) (w : Missing) : Type 0 where
  pub place : ℕ
  pub later : ℕ
  pub write : IsPendingAt s w place
  pub behind : place < later
  pub marker : slice_get s.memory.pending later ≡ Some (Marker (line_of w.word))

-- It is pending, and no marker of its line is behind it.
pub record HasNoMarkerBehind (s : State) (w : Missing) : Type 0 where
  pub place : ℕ
  pub write : IsPendingAt s w place
  pub none : (later : ℕ) → place < later → slice_get s.memory.pending later ≢ Some (Marker (line_of w.word))

-- ---- stores that have left their store buffers

-- This value of a word was persisted since the last crash, or the write of it is pending.
abbrev pub HasLeft : List Seen → State → ℕ → ℕ → Type 0
HasLeft run s word value = HasPersisted run word value ⊎ Contains s.memory.pending (Write word value)

-- The least closed set that leaves an image holds this entry.
pub record IsInLeastSet (s : State) (image : List ℕ) (entry : PendingEntry) : Type 0 where
  pub places : List ℕ
  pub place : ℕ
  pub set : closed_set_of s.shape s.memory image ≡ Some places
  pub held : Contains places place
  pub there : slice_get s.memory.pending place ≡ Some entry

-- The image has a write: it was persisted since the last crash, or is pending and that set holds it.
abbrev pub HasWrite : List Seen → State → List ℕ → ℕ → ℕ → Type 0
HasWrite run s image word value = HasPersisted run word value ⊎ IsInLeastSet s image (Write word value)

-- A step after the n-th ran the store at a site, on the processor of the flush, and a write of its word and value has left.
pub record HasPassed (run : List Seen) (s : State) (n : ℕ) (flush : Site) (store : Site) : Type 0 where
  pub step : ℕ
  pub word : ℕ
  pub value : ℕ
  pub own : store.processor ≡ flush.processor
  pub later : n < step
  pub ran : IsRunSinceCrash run step store (Write word value)
  pub left : HasLeft run s word value

-- A write that another processor ran, or that was run no later than step n
pub record IsNoPassing (run : List Seen) (n : ℕ) (flush : Site) (word value : ℕ) : Type 0 where
  pub store : Site
  pub step : ℕ
  pub ran : IsRunSinceCrash run step store (Write word value)
  pub not_passed : (store.processor ≢ flush.processor) ⊎ (step ≤ n)

-- The store that is told has passed the flush that step n ran. If none is, each pending write may be of a step that has not passed it.
abbrev pub IsPassedBy : List Seen → State → ℕ → Site → Option Site → Type 0
IsPassedBy run s n flush (Some store) = HasPassed run s n flush store
IsPassedBy run s n flush None = (word value : ℕ) → Contains s.memory.pending (Write word value) → IsNoPassing run n flush word value

-- A step after the n-th, and before the later one, ran the store at a site, on the processor of the flush, and the image has a write of
-- its word and value.
pub record IsBetween (run : List Seen) (s : State) (image : List ℕ) (n later : ℕ) (flush : Site) (store : Site) : Type 0 where
  pub step : ℕ
  pub word : ℕ
  pub value : ℕ
  pub own : store.processor ≡ flush.processor
  pub after : n < step
  pub before : step < later
  pub ran : IsRunSinceCrash run step store (Write word value)
  pub has : HasWrite run s image word value

-- A step before the n-th ran the store at a site, on the processor of a missing write and of its line, and the image has a write of its
-- word and value.
pub record IsStoredBefore (run : List Seen) (s : State) (image : List ℕ) (n : ℕ) (w : Missing) (store : Site) : Type 0 where
  pub step : ℕ
  pub word : ℕ
  pub value : ℕ
  pub own : store.processor ≡ w.site.processor
  pub on : line_of word ≡ line_of w.word
  pub before : step < n
  pub ran : IsRunSinceCrash run step store (Write word value)
  pub has : HasWrite run s image word value

-- ---- no flush behind the write

-- A flush of a line that a processor executed no later than step n, and since the last crash
pub record IsNotBehind (run : List Seen) (line n p : ℕ) : Type 0 where
  pub step : ℕ
  pub flush : IsFlushAt run line step
  pub own : flush.processor ≡ p
  pub since : IsSinceCrash run step
  pub before : step ≤ n

-- Each flush of a line that a store buffer holds may be of a step no later than the n-th.
abbrev pub AreNotBehind : List Seen → State → ℕ → ℕ → Type 0
AreNotBehind run s line n = (p : ℕ) → HoldsFlush s line p → IsNotBehind run line n p

-- ---- the reasons

-- The flush of a line ran after step n and since the last crash, on a processor whose store buffer still holds a flush of it.
pub record IsStillBuffered (run : List Seen) (s : State) (n line : ℕ) (flush : Site) : Type 0 where
  pub held : HoldsFlush s line flush.processor
  pub step : ℕ
  pub ran : IsRunSinceCrash run step flush (Marker line)
  pub behind : n < step

-- The last flush of the line since the last crash is this one. It ran before step n, which executed the write, or it took effect before
-- the write did. And no flush of the line is still buffered behind the write.
pub record IsFlushedBefore (run : List Seen) (s : State) (n : ℕ) (w : Missing) (flush : Site) : Type 0 where
  pub last : IsLastFlush run (line_of w.word) flush
  pub before : (last.step < n) ⊎ IsEffectBefore run (line_of w.word) flush.processor w.site.processor (Write w.word w.value)
  pub none : AreNotBehind run s (line_of w.word) n

-- The reason that is told of a write, which step n executed, is so.
abbrev pub IsReasonSo : List Seen → State → List ℕ → ℕ → Missing → Why → Type 0
IsReasonSo run s image n w InStoreBuffer = HoldsWrite s w
IsReasonSo run s image n w (StoredAfter store) = HoldsWrite s w × IsStoredBefore run s image n w store
IsReasonSo run s image n w (FlushPending flush) = HasMarkerBehind s w × ((m : ℕ) × IsRunSinceCrash run m flush (Marker (line_of w.word)))
IsReasonSo run s image n w (FlushBuffered flush passing) =
    HasNoMarkerBehind s w × ((b : IsStillBuffered run s n (line_of w.word) flush) × IsPassedBy run s b.step flush passing)
IsReasonSo run s image n w (FlushBehind flush store) =
    HasNoMarkerBehind s w × ((b : IsStillBuffered run s n (line_of w.word) flush) × IsBetween run s image n b.step flush store)
IsReasonSo run s image n w (FlushedBefore flush) = HasNoMarkerBehind s w × IsFlushedBefore run s n w flush
IsReasonSo run s image n w NeverFlushed = HasNoMarkerBehind s w × IsUnflushed run (line_of w.word)

-- A missing write ran since the last crash, and the reason that is told of it is so.
pub record IsReasoned (run : List Seen) (s : State) (image : List ℕ) (w : Missing) : Type 0 where
  pub step : ℕ
  pub ran : IsRunSinceCrash run step w.site (Write w.word w.value)
  pub why : IsReasonSo run s image step w w.why

abbrev pub AreReasoned : List Seen → State → List ℕ → List Missing → Type 0
AreReasoned run s image missing = (w : Missing) → Contains missing w → IsReasoned run s image w
