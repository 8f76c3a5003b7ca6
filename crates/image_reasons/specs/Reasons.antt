-- Which writes are missing in an image, and why each may be.
use Rattle.std.specs.Prelude.{ℕ, ◌+◌, ◌==◌, ◌&&◌, ◌||◌, Bool, true, false, not, is_none, nat_eq, nat_lt, Option, Some, None, option_map, unwrap_or, List, [], ◌∷◌, ◌++◌, drop, filter_map, find, flat_map, fold, length, slice_get, if◌then◌else◌}
use Rattle.std.specs.Global.{Vec}
use Rattle.std.specs.List.{list_any, range_with_len}
use Rattle.std.specs.Option.{option_or}
use Rattle.lines_layout.specs.Lines.{line_of}
use Rattle.isa.specs.Objects.{Object}
use Rattle.store_buffer.specs.declared.entry.Entry.{Entry}
use Rattle.store_buffer.specs.declared.entry.Entry.TheVariants as entries
use Rattle.persist_buffer.specs.declared.entry.PendingEntry.{PendingEntry}
use Rattle.persist_buffer.specs.declared.entry.PendingEntry.TheVariants.{Write, Marker}
use Rattle.persist_buffer.specs.Memories.{is_write_on}
use Rattle.persist_buffer.specs.State.{Pending}
use Rattle.pending_images.specs.Images.{value_of}
use Rattle.pending_images.specs.LeastCuts.{closed_set_in}
use Rattle.machine.specs.declared.step.Step.{Step}
use Rattle.machine.specs.Objects.{opening}
use Rattle.machine.specs.Steps.{End, run_of}
use Rattle.image_reasons.specs.declared.entries.Delayed.{Delayed}
use Rattle.image_reasons.specs.declared.entries.Flushed.{Flushed}
use Rattle.image_reasons.specs.declared.entries.Operation.{Operation}
use Rattle.image_reasons.specs.declared.entries.Pended.{Pended}
use Rattle.image_reasons.specs.declared.entries.Site.{Site}
use Rattle.image_reasons.specs.declared.missing.Missing.{Missing}
use Rattle.image_reasons.specs.declared.missing.Why.{Why}
use Rattle.image_reasons.specs.declared.missing.Why.TheVariants.{InStoreBuffer, StoredAfter, FlushPending, FlushBuffered, FlushBehind, FlushedBefore, NeverFlushed}
use Rattle.image_reasons.specs.Origins.{Origins, origins_of}

-- whether an entry is the marker of a line
abbrev pub is_marker_of : ℕ → PendingEntry → Bool
is_marker_of line (Marker other) = other == line
is_marker_of line (Write word value) = false

-- whether an entry is a write
abbrev pub is_write : PendingEntry → Bool
is_write (Marker line) = false
is_write (Write word value) = true

-- the flush of the first marker of a line among pending entries
abbrev pub marker_among : ℕ → List Pended → Option Site
marker_among line pended = option_map (λ p. p.operation.site) (find (λ p. is_marker_of line p.entry) pended)

-- whether the operation of a step is delayed by one of the store buffers
abbrev pub is_delayed : List (List Delayed) → ℕ → Bool
is_delayed buffered n = list_any (λ own. list_any (λ d. d.operation.step == n) own) buffered

-- whether this is a flush of the line that is still buffered
abbrev pub is_buffered_flush : List (List Delayed) → ℕ → Flushed → Bool
is_buffered_flush buffered line f = (f.line == line) && is_delayed buffered f.operation.step

-- the same, executed after step n
abbrev pub is_later_flush : List (List Delayed) → ℕ → ℕ → Flushed → Bool
is_later_flush buffered line n f = nat_lt n f.operation.step && is_buffered_flush buffered line f

-- whether one operation was executed after another, by the same processor
abbrev pub is_later_own : Operation → Operation → Bool
is_later_own f later = (later.site.processor == f.site.processor) && nat_lt f.step later.step

-- whether an entry is a write that the processor of a flush executed after it: once it has left, it has passed it in the store buffer
abbrev pub has_passed : Operation → Pended → Bool
has_passed f p = is_write p.entry && is_later_own f p.operation

-- whether it is one that the processor of a flush executed before it, and after step n
abbrev pub comes_between : ℕ → Operation → Pended → Bool
comes_between n f p = is_write p.entry && (nat_lt n p.operation.step && is_later_own p.operation f)

-- whether it is a write of a line that the processor of an operation executed before it
abbrev pub comes_before : ℕ → Operation → Pended → Bool
comes_before line f p = is_write_on line p.entry && is_later_own p.operation f

-- the first of these stores that has passed a flush
abbrev pub passing_write : List Pended → Operation → Option Site
passing_write stores f = option_map (λ p. p.operation.site) (find (has_passed f) stores)

-- the first of them between step n and a flush
abbrev pub write_between : List Pended → ℕ → Operation → Option Site
write_between stores n f = option_map (λ p. p.operation.site) (find (comes_between n f) stores)

-- the newest store of a line before an operation, where this is the newest of those before
abbrev pub newer_write : ℕ → Operation → Option Site → Pended → Option Site
newer_write line f newest p = if comes_before line f p then Some p.operation.site else newest

-- the newest of these stores that is of a line, and of the processor of an operation, before it
abbrev pub write_before : List Pended → ℕ → Operation → Option Site
write_before stores line f = fold (newer_write line f) None stores

-- the newest flush of a line, where this is the newest of those before
abbrev pub newer_flush : ℕ → Option Site → Flushed → Option Site
newer_flush line newest f = if f.line == line then Some f.operation.site else newest

-- the newest flush of a line
abbrev pub newest_flush : ℕ → List Flushed → Option Site
newest_flush line flushed = fold (newer_flush line) None flushed

-- ---- the stores by which a reason is found

pub record Stores : Type 0 where
  -- those that have left their store buffers since the last crash: those that have persisted, in this order, and then what is pending
  pub left : List Pended
  -- of these what the image has: all that has persisted, and of what is pending the least closed set that leaves it
  pub kept : List Pended

-- those of a closed set with these places
abbrev pub stores_of : Origins → List ℕ → Stores
stores_of o places = record { left = o.persisted ++ o.pended; kept = o.persisted ++ filter_map (slice_get o.pended) places }

-- ---- the reasons

-- that this flush is still buffered, and one of these stores has passed it
abbrev pub why_passed : List Pended → Flushed → Option Why
why_passed stores f = option_map (λ store. FlushBuffered f.operation.site (Some store)) (passing_write stores f.operation)

-- that it is buffered, and one of these stores comes between step n and it
abbrev pub why_behind : List Pended → ℕ → Flushed → Option Why
why_behind stores n f = option_map (λ store. FlushBehind f.operation.site store) (write_between stores n f.operation)

-- that it is buffered
abbrev pub why_buffered : Flushed → Option Why
why_buffered f = Some (FlushBuffered f.operation.site None)

-- the same of a flush of a line that is still buffered and was executed after step n
abbrev pub of_later : Origins → ℕ → ℕ → (Flushed → Option Why) → Flushed → Option Why
of_later o line n why f = if is_later_flush o.buffered line n f then why f else None

-- the first such reason
abbrev pub first_given : (Flushed → Option Why) → List Flushed → Option Why
first_given why [] = None
first_given why (f ∷ flushed) = option_or (why f) (first_given why flushed)

-- of the later flushes of a line that are still buffered
abbrev pub first_later : Origins → ℕ → ℕ → (Flushed → Option Why) → Option Why
first_later o line n why = first_given (of_later o line n why) o.flushed

-- Why a write of a line may be missing that step n executed, if a later flush of the line is still buffered: of these reasons the first
-- that is so. A store that the image has has passed the flush; any has; one that the image has comes before the flush; it is buffered.
abbrev pub why_later : Origins → Stores → ℕ → ℕ → Option Why
why_later o stores line n =
    option_or (first_later o line n (why_passed stores.kept)) (option_or (first_later o line n (why_passed stores.left))
    (option_or (first_later o line n (why_behind stores.kept n)) (first_later o line n why_buffered)))

-- why one may be missing, where no flush of its line is pending behind it, and no later one is buffered
abbrev pub why_flushed : Option Site → Why
why_flushed (Some flush) = FlushedBefore flush
why_flushed None = NeverFlushed

-- the same where none is pending behind it
abbrev pub why_unmarked : Origins → Stores → ℕ → ℕ → Why
why_unmarked o stores line n = unwrap_or (why_later o stores line n) (why_flushed (newest_flush line o.flushed))

-- Why a pending write of a line may be missing that step n executed, where the first marker of the line behind it is of this flush.
-- Of these reasons the first that is so: a flush is pending behind it; a later one is still buffered; one was executed before it, or
-- took effect before it; none was executed since the last crash.
abbrev pub why_missing : Origins → Stores → ℕ → ℕ → Option Site → Why
why_missing o stores line n (Some flush) = FlushPending flush
why_missing o stores line n None = why_unmarked o stores line n

-- why a buffered one may be, where this store of its line, which the image has, is the newest before it
abbrev pub why_delayed : Option Site → Why
why_delayed (Some store) = StoredAfter store
why_delayed None = InStoreBuffer

-- ---- the writes that are missing

-- whether a set of places holds a place
abbrev pub holds : List ℕ → ℕ → Bool
holds places i = list_any (nat_eq i) places

-- whether this is the value
abbrev pub is_value : ℕ → Option ℕ → Bool
is_value n (Some v) = v == n
is_value n None = false

-- whether the write at place i is missing: the places do not hold it, and the image has another value of its word
abbrev pub is_missing : List ℕ → List ℕ → List ℕ → ℕ → ℕ → ℕ → Bool
is_missing shape image places i word value = not (holds places i || is_value value (value_of shape image word))

-- what is said of a pending write that is missing, with these entries behind it
abbrev pub missing_write : Origins → Stores → ℕ → ℕ → Operation → List Pended → Missing
missing_write o stores word value f later =
    record { word = word; value = value; site = f.site; why = why_missing o stores (line_of word) f.step (marker_among (line_of word) later) }

-- the pending write at place i, if it is missing
abbrev pub missing_at : Origins → Stores → List ℕ → List ℕ → List ℕ → ℕ → Operation → List Pended → PendingEntry → Option Missing
missing_at o stores shape image places i f later (Marker line) = None
missing_at o stores shape image places i f later (Write word value) =
    if is_missing shape image places i word value then Some (missing_write o stores word value f later) else None

-- the entry at a place, if there is one and it is a missing write
abbrev pub missing_of : Origins → Stores → List ℕ → List ℕ → List ℕ → ℕ → Option Pended → Option Missing
missing_of o stores shape image places i None = None
missing_of o stores shape image places i (Some p) = missing_at o stores shape image places i p.operation (drop (i + 1) o.pended) p.entry

abbrev pub missing_place : Origins → Stores → List ℕ → List ℕ → List ℕ → ℕ → Option Missing
missing_place o stores shape image places i = missing_of o stores shape image places i (slice_get o.pended i)

-- the pending writes that are missing, oldest first, where these are the places of a closed set that leaves the image
abbrev pub missing_pending : Origins → Stores → List ℕ → List ℕ → List ℕ → List Missing
missing_pending o stores shape image places = filter_map (missing_place o stores shape image places) (range_with_len 0 (length o.pended))

-- what is said of a buffered write that is missing, where the image has these stores
abbrev pub missing_buffered_write : List Pended → ℕ → ℕ → Operation → Missing
missing_buffered_write kept word value f =
    record { word = word; value = value; site = f.site; why = why_delayed (write_before kept (line_of word) f) }

-- a buffered entry, if it is a write of which the image has another value
abbrev pub missing_entry : List Pended → List ℕ → List ℕ → Operation → Entry → Option Missing
missing_entry kept shape image f (entries.Write word value) =
    if is_value value (value_of shape image word) then None else Some (missing_buffered_write kept word value f)
missing_entry kept shape image f (entries.Flush line) = None
missing_entry kept shape image f (entries.FlushOpt line) = None
missing_entry kept shape image f entries.Sfence = None

abbrev pub missing_delayed : List Pended → List ℕ → List ℕ → Delayed → Option Missing
missing_delayed kept shape image d = missing_entry kept shape image d.operation d.entry

-- the writes of one store buffer that are missing, oldest first; no closed set holds them, since a crash empties store buffers
abbrev pub missing_own : List Pended → List ℕ → List ℕ → List Delayed → List Missing
missing_own kept shape image own = filter_map (missing_delayed kept shape image) own

-- those of all store buffers, by processor
abbrev pub missing_buffered : Origins → List Pended → List ℕ → List ℕ → List Missing
missing_buffered o kept shape image = flat_map (missing_own kept shape image) o.buffered

-- the writes that are missing: those that are pending, and then those that are buffered
abbrev pub missing_by : Origins → Stores → List ℕ → List ℕ → List ℕ → List Missing
missing_by o stores shape image places = missing_pending o stores shape image places ++ missing_buffered o stores.kept shape image

abbrev pub missing_writes : Origins → List ℕ → List ℕ → List ℕ → List Missing
missing_writes o shape image places = missing_by o (stores_of o places) shape image places

-- the same where what has left the store buffers is this: by the least closed set that leaves the image, if there is one
abbrev pub missing_in : Origins → Pending → List ℕ → Option (List Missing)
missing_in o pending image = option_map (missing_writes o pending.shape image) (closed_set_in pending image)

-- the same at the end of a run, unless one of its steps was refused
abbrev pub missing_at_end : Origins → List ℕ → End → Option (List Missing)
missing_at_end o image end =
    if is_none end.refusal then missing_in o (record { shape = end.state.shape; memory = end.state.memory }) image else None

-- The writes that are missing in an image that a crash after these steps may leave, and why each may be. None where a step is refused,
-- or no crash after them leaves the image.
abbrev pub missing_after : Object → List Step → List ℕ → Option (List Missing)
missing_after object steps image = missing_at_end (origins_of object steps) image (run_of steps (opening object))

-- what a call found, where it found any
abbrev pub missing_found : Option (Vec Missing) → Option (List Missing)
missing_found found = option_map (λ missing. missing.items) found
