-- What the calls of the code do to a processor, or to all, and to what has left the store buffers. Refused, they leave both as they were.
use Rattle.std.specs.Prelude.{ℕ, Result, List}
use Rattle.outcomes.specs.Calls.{Does}
use Rattle.outcomes.specs.Outcomes.{tested}
use Rattle.isa.specs.declared.instr.Instr.{Instr}
use Rattle.store_buffer.specs.declared.entry.Entry.{Entry}
use Rattle.persist_buffer.specs.State.{Memory, Pending}
use Rattle.processor.specs.declared.act.Act.{Act}
use Rattle.processor.specs.declared.refusal.Refusal as exec
use Rattle.processor.specs.Contents.{Contents}
use Rattle.processor.specs.Cpus.{Cpu}
use Rattle.processor.specs.Executions.{check_of}
use Rattle.machine.specs.declared.refusal.Refusal.{Refusal}
use Rattle.machine.specs.declared.step.Seen.{Seen}
use Rattle.machine.specs.State.{Processor}
use Rattle.machine.specs.Processors.{contents_over, drain_of, run_by}
use Rattle.machine.specs.Steps.{drain_at, exec_at}

-- A call does to something and to the memory what is stated of both, or leaves both as they were.
abbrev pub DoesOver : {A S E : Type 0} → (S → Memory → Result (A × (S × Memory)) E) → S → Pending → Result A E → S → Pending → Type 0
DoesOver stated old before result new after = Does (stated old before.memory) (old, before.memory) result (new, after.memory)

-- A call runs what is stated on a processor, its store buffer and the memory, or leaves all as it was.
abbrev pub RunsOver : {E : Type 0} → (Cpu → Contents → Result (Act × (Cpu × Contents)) E) → Cpu × List Entry × Pending → Result Act E → Cpu × List Entry × Pending → Type 0
RunsOver stated old result new = Does (stated old.0 (contents_over old.1 old.2)) (old.0, contents_over old.1 old.2) result (new.0, contents_over new.1 new.2)

-- whether an instruction would run over a store buffer and the memory, or the refusal
abbrev pub check_over : List Instr → Cpu → List Entry → Pending → Result (Unit {0}) exec.Refusal
check_over program cpu buffer pending = tested (check_of program cpu (contents_over buffer pending))

-- a processor runs the instruction at its place
abbrev pub RunsNext : Processor → Pending → Result Act Refusal → Processor → Pending → Type 0
RunsNext old before result new after = DoesOver (run_by before.shape) old before result new after

-- the entry at place i leaves a processor's store buffer
abbrev pub LetsLeave : ℕ → Processor → Pending → Result Entry Refusal → Processor → Pending → Type 0
LetsLeave i old before result new after = DoesOver (λ c m. drain_of c m i) old before result new after

-- processor p of all runs the instruction at its place
abbrev pub MakesExec : ℕ → List Processor → Pending → Result Seen Refusal → List Processor → Pending → Type 0
MakesExec p old before result new after = DoesOver (λ cpus m. exec_at before.shape cpus m p) old before result new after

-- the entry at place i leaves the store buffer of processor p of all
abbrev pub MakesDrain : ℕ → ℕ → List Processor → Pending → Result Seen Refusal → List Processor → Pending → Type 0
MakesDrain p i old before result new after = DoesOver (λ cpus m. drain_at cpus m p i) old before result new after
