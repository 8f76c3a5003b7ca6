-- Steps that leave all that a condition may ask of a state and of its images.
use Rattle.std.specs.Prelude.{◌≡◌, Bool, true, false, not, Option, Some, None, Ok}
use Rattle.store_buffer.specs.declared.entry.Entry.TheVariants as entries
use Rattle.processor.specs.declared.act.Act.{Act}
use Rattle.processor.specs.declared.act.Act.TheVariants.{Local, Fence, Read, Delay, Locked, Trap}
use Rattle.conditions.specs.Formulas.{Formula}
use Rattle.machine.specs.State.{State}
use Rattle.machine.specs.Steps.{step_of}
use Rattle.machine.specs.declared.step.Step.{Step}
use Rattle.machine.specs.declared.step.Seen.{Seen}
use Rattle.hunt.specs.Crashes.{broken_in}
use Rattle.hunt.specs.declared.loss.Breach.{Breach}
use Rattle.machine.specs.declared.step.Seen.TheVariants.{Ran, Left, Persisted, Settled, Crashed}

-- whether an act leaves memory and registers as they were, or memory alone where registers do not count
abbrev pub act_leaves_all : Act → Bool → Bool
act_leaves_all Local cond_reads_registers = not cond_reads_registers
act_leaves_all Fence cond_reads_registers = true
act_leaves_all (Read word value) cond_reads_registers = not cond_reads_registers
act_leaves_all (Delay entry) cond_reads_registers = true
act_leaves_all (Locked word value None) cond_reads_registers = not cond_reads_registers
act_leaves_all (Locked word value (Some new)) cond_reads_registers = false
act_leaves_all (Trap address) cond_reads_registers = true

-- the same of a step that showed this: an instruction, or a store fence that left a store buffer
abbrev pub leaves_all : Seen → Bool → Bool
leaves_all (Ran p place act) cond_reads_registers = act_leaves_all act cond_reads_registers
leaves_all (Left p i entries.Sfence) cond_reads_registers = true
leaves_all (Left p i (entries.Write word value)) cond_reads_registers = false
leaves_all (Left p i (entries.Flush line)) cond_reads_registers = false
leaves_all (Left p i (entries.FlushOpt line)) cond_reads_registers = false
leaves_all (Persisted word value) cond_reads_registers = false
leaves_all (Settled line) cond_reads_registers = false
leaves_all (Crashed n) cond_reads_registers = false

-- What breaks a condition in the state after a step that showed this, if nothing did in the state before.
abbrev pub IsBreachAfter : Formula → Seen → State → Option Breach → Type 0
IsBreachAfter condition seen after found =
    (s : State) (step : Step) → step_of s step ≡ Ok (seen, after) → broken_in condition s ≡ None → found ≡ broken_in condition after
