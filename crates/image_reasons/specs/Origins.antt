-- Which operation each buffered and each pending entry is of. The run is given by what its steps show. An operation is told by
-- the place, from 0, of the step that executes it, and by where its instruction stands.
use Rattle.std.specs.Prelude.{◌≡◌, ℕ, ◌+◌, Bool, true, false, Option, Some, None, Result, Ok, Err, List, [], ◌∷◌, ◌++◌, length, map, option_map, position, remove, replicate, slice_get, slice_set, unwrap_or}
use Rattle.std.specs.List.{cons_option, find}
use Rattle.std.specs.Option.{option_map_or}
use Rattle.lines_layout.specs.Lines.{line_of}
use Rattle.store_buffer.specs.declared.entry.Entry.{Entry}
use Rattle.store_buffer.specs.declared.entry.Entry.TheVariants as entries
use Rattle.persist_buffer.specs.declared.entry.PendingEntry.{PendingEntry}
use Rattle.persist_buffer.specs.declared.entry.PendingEntry.TheVariants.{Write, Marker}
use Rattle.persist_buffer.specs.Memories.{is_marker, is_write_on}
use Rattle.processor.specs.declared.act.Act.{Act}
use Rattle.processor.specs.declared.act.Act.TheVariants.{Local, Fence, Read, Delay, Locked, Trap}
use Rattle.isa.specs.Objects.{Object}
use Rattle.machine.specs.declared.step.Step.{Step}
use Rattle.machine.specs.declared.refusal.Refusal.{Refusal}
use Rattle.machine.specs.declared.step.Seen.{Seen}
use Rattle.machine.specs.declared.step.Seen.TheVariants.{Ran, Left, Persisted, Settled, Crashed}
use Rattle.machine.specs.LooseSteps.{shown_on}
use Rattle.machine.specs.Objects.{opening}
use Rattle.machine.specs.State.{State}
use Rattle.machine.specs.Steps.{step_of}
use Rattle.image_reasons.specs.declared.entries.Delayed.{Delayed}
use Rattle.image_reasons.specs.declared.entries.Flushed.{Flushed}
use Rattle.image_reasons.specs.declared.entries.Operation.{Operation}
use Rattle.image_reasons.specs.declared.entries.Pended.{Pended}
use Rattle.image_reasons.specs.declared.entries.Site.{Site}

pub record Origins : Type 0 where
  -- whether processors run their recovery programs: there was a crash
  pub recovering : Bool
  -- what each store buffer delays, oldest first
  pub buffered : List (List Delayed)
  -- what is pending, oldest first
  pub pended : List Pended
  -- the flushes that were executed since the last crash, in the order of their steps
  pub flushed : List Flushed
  -- the writes that have persisted since the last crash, in the order in which they did
  pub persisted : List Pended

-- nothing is buffered, pending, flushed or persisted, by so many processors
abbrev pub nothing_noted : Bool → ℕ → Origins
nothing_noted recovering processors = record { recovering = recovering; buffered = replicate processors []; pended = []; flushed = []; persisted = [] }

-- before the first step of so many processors
abbrev pub no_origins : ℕ → Origins
no_origins processors = nothing_noted false processors

-- what processor p executes at a place of its program in the n-th step
abbrev pub operation_at : ℕ → Origins → ℕ → ℕ → Operation
operation_at n o p place = record { step = n; site = record { processor = p; recovering = o.recovering; place = place } }

-- a flush was executed
abbrev pub with_flush : ℕ → Operation → Origins → Origins
with_flush line f o = record o { flushed = o.flushed ++ record { line = line; operation = f } ∷ [] }

-- an executed entry is noted, if it is a flush
abbrev pub flush_noted : Entry → Operation → Origins → Origins
flush_noted (entries.Flush line) f o = with_flush line f o
flush_noted (entries.FlushOpt line) f o = with_flush line f o
flush_noted (entries.Write word value) f o = o
flush_noted entries.Sfence f o = o

-- what processor p's store buffer delays, if there is such a processor
abbrev pub delayed_of : ℕ → Origins → List Delayed
delayed_of p o = unwrap_or (slice_get o.buffered p) []

-- an entry goes into processor p's store buffer
abbrev pub delayed_by : ℕ → Delayed → Origins → Origins
delayed_by p d o = record o { buffered = slice_set o.buffered p (delayed_of p o ++ d ∷ []) }

-- processor p executes an instruction that puts an entry there
abbrev pub executed_by : ℕ → Delayed → Origins → Origins
executed_by p d o = delayed_by p d (flush_noted d.entry d.operation o)

-- the entry at place i of processor p's store buffer
abbrev pub delayed_at : ℕ → ℕ → Origins → Option Delayed
delayed_at p i o = slice_get (delayed_of p o) i

-- it is delayed no more
abbrev pub released_by : ℕ → ℕ → Origins → Origins
released_by p i o = record o { buffered = slice_set o.buffered p (remove (delayed_of p o) i) }

-- an entry goes to the end of the pending list
abbrev pub put : PendingEntry → Operation → Origins → Origins
put entry f o = record o { pended = o.pended ++ record { entry = entry; operation = f } ∷ [] }

-- what an entry that leaves a store buffer puts there
abbrev pub put_as : Entry → Operation → Origins → Origins
put_as (entries.Write word value) f o = put (Write word value) f o
put_as (entries.Flush line) f o = put (Marker line) f o
put_as (entries.FlushOpt line) f o = put (Marker line) f o
put_as entries.Sfence f o = o

-- the entry at place i of processor p's store buffer leaves it
abbrev pub left_by : ℕ → ℕ → Origins → Origins
left_by p i o = option_map_or (λ d. put_as d.entry d.operation (released_by p i o)) (delayed_at p i o) o

-- the place of the first pending entry that passes a test
abbrev pub first_place : (PendingEntry → Bool) → List Pended → Option ℕ
first_place test pended = position (λ p. test p.entry) pended

-- the entry at a place goes, if one is given
abbrev pub without_place : Option ℕ → List Pended → List Pended
without_place place pended = option_map_or (remove pended) place pended

-- the first pending entry that passes a test goes
abbrev pub without_first : (PendingEntry → Bool) → List Pended → List Pended
without_first test pended = without_place (first_place test pended) pended

-- the first pending entry that passes a test, alone, if there is one
abbrev pub first_alone : (PendingEntry → Bool) → List Pended → List Pended
first_alone test pended = cons_option (find (λ p. test p.entry) pended) []

-- the oldest pending write of a line is persisted
abbrev pub persisted_on : ℕ → Origins → Origins
persisted_on line o = record o {
  pended = without_first (is_write_on line) o.pended;
  persisted = o.persisted ++ first_alone (is_write_on line) o.pended;
}

-- the oldest pending marker goes
abbrev pub settled : Origins → Origins
settled o = record o { pended = without_first is_marker o.pended }

-- a crash loses all
abbrev pub lost : Origins → Origins
lost o = nothing_noted true (length o.buffered)

-- a locked operation writes a value, if one is given
abbrev pub written_by : ℕ → Option ℕ → Operation → Origins → Origins
written_by word (Some value) f o = put (Write word value) f o
written_by word None f o = o

-- what this operation of processor p showed
abbrev pub act_noted : ℕ → Act → Operation → Origins → Origins
act_noted p (Delay entry) f o = executed_by p (record { entry = entry; operation = f }) o
act_noted p (Locked word value written) f o = written_by word written f o
act_noted p Local f o = o
act_noted p Fence f o = o
act_noted p (Read word value) f o = o
act_noted p (Trap address) f o = o

-- the n-th step
unfoldable pub origins_next : ℕ → Origins → Seen → Origins
origins_next n o (Ran p place act) = act_noted p act (operation_at n o p place) o
origins_next n o (Left p i entry) = left_by p i o
origins_next n o (Persisted word value) = persisted_on (line_of word) o
origins_next n o (Settled line) = settled o
origins_next n o (Crashed count) = lost o

-- a run whose first step is the n-th
abbrev pub origins_on : ℕ → Origins → List Seen → Origins
origins_on n o [] = o
origins_on n o (seen ∷ run) = origins_on (n + 1) (origins_next n o seen) run

-- what the steps of a run show, up to the first that is refused
abbrev pub trace_of : List Step → State → List Seen
trace_of [] s = []
trace_of (step ∷ steps) s = shown_on (step_of s step) (trace_of steps)

-- what is kept of a run of these steps, on the machine of a program
abbrev pub origins_of : Object → List Step → Origins
origins_of object steps = origins_on 0 (no_origins (length object.processors)) (trace_of steps (opening object))

-- where the instruction stands that the entry at place i of processor p's store buffer is of, if there is such an entry
abbrev pub buffered_site : Origins → ℕ → ℕ → Option Site
buffered_site o p i = option_map (λ d. d.operation.site) (delayed_at p i o)

-- where the instruction stands that the pending entry at place i is of, if there is such an entry
abbrev pub pending_site : Origins → ℕ → Option Site
pending_site o i = option_map (λ q. q.operation.site) (slice_get o.pended i)

-- what is kept where a step was tried as the n-th: of one that was refused nothing more
abbrev pub origins_behind : ℕ → Origins → Result (Seen × State) Refusal → Origins
origins_behind n o (Ok done) = origins_next n o done.0
origins_behind n o (Err refusal) = o

-- The entries are those of a state, place by place.
pub record AreOrigins (o : Origins) (s : State) : Type 0 where
  pub buffers : map (λ own. map (λ d. d.entry) own) o.buffered ≡ map (λ c. c.buffer) s.processors
  pub pending : map (λ p. p.entry) o.pended ≡ s.memory.pending
