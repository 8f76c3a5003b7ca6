-- A program run alone by a plain interpreter, an instruction at a time, as if each took effect at once.
use Rattle.std.specs.Prelude.{ℕ, zero, suc, Bool, true, Some, None, List, [], ◌∷◌, ◌++◌, is_none, ◌==◌, if◌then◌else◌}
use Rattle.std.specs.Option.{option_map_or}
use Rattle.lines_layout.specs.Lines.{word_at}
use Rattle.isa.specs.declared.instr.Access.{Access}
use Rattle.isa.specs.declared.instr.Access.TheVariants as accesses
use Rattle.isa.specs.declared.instr.FenceKind.TheVariants.{Mfence, Sfence}
use Rattle.isa.specs.declared.instr.Instr.{Instr}
use Rattle.isa.specs.declared.instr.Instr.TheVariants as instrs
use Rattle.isa.specs.declared.instr.Next.TheVariants.{Following}
use Rattle.isa.specs.Effects.{local_of}
use Rattle.isa.specs.Operands.{address_meant}
use Rattle.store_buffer.specs.declared.entry.Entry.TheVariants as entries
use Rattle.processor.specs.declared.act.Act.{Act}
use Rattle.processor.specs.declared.act.Act.TheVariants.{Local, Fence, Read, Delay, Locked, Trap}
use Rattle.processor.specs.Accesses.{act_of, regs_of}
use Rattle.processor.specs.Cpus.{Cpu, next_cpu, trapped_at}
use Rattle.processor.specs.Executions.{next_instruction}
use Rattle.processor.specs.Contents.{seen_value}
use Rattle.machine.specs.Processors.{contents_of, cpu_of, program_of}
use Rattle.machine.specs.State.{Processor, State}
use Rattle.explore.specs.declared.event.Event.{Event}
use Rattle.explore.specs.declared.event.Event.TheVariants.{Delayed, Waited, LockedWrite}

-- the event that an act is: one that only reads, touches no memory or traps is none
abbrev pub events_shown : Act → List Event
events_shown Local = []
events_shown Fence = Waited ∷ []
events_shown (Read word value) = []
events_shown (Delay entry) = Delayed entry ∷ []
events_shown (Locked word value (Some new)) = LockedWrite word new ∷ []
events_shown (Locked word value None) = Waited ∷ []
events_shown (Trap address) = []

-- a value for each word
abbrev pub Values : Type 0
Values = ℕ → ℕ

-- one word has another value
abbrev pub with_value : ℕ → ℕ → Values → Values
with_value word value values other = if word == other then value else values other

-- the value that an access reads; 0 where it reads none
abbrev pub value_in : Access → ℕ → Values → ℕ
value_in (accesses.Load r) word values = values word
value_in (accesses.Locked operation r) word values = values word
value_in _ word values = 0

-- what an access to a word does, and where the program goes on
abbrev pub access_done : Access → ℕ → Cpu → Values → Act × Cpu
access_done access word c values =
    let value = value_in access word values in
    (act_of access word c.regs value, next_cpu c Following (regs_of access c.regs value))

-- what an instruction does, and where the program goes on
abbrev pub done_by : Instr → List ℕ → Cpu → Values → Act × Cpu
done_by (instrs.Memory access operand) shape c values =
    let address = address_meant c.regs operand in
    option_map_or (λ word. access_done access word c values) (word_at shape address) (Trap address, trapped_at c address)
done_by (instrs.Fence Mfence) shape c values = (Fence, next_cpu c Following c.regs)
done_by (instrs.Fence Sfence) shape c values = (Delay entries.Sfence, next_cpu c Following c.regs)
done_by instr shape c values = option_map_or (λ after. (Local, next_cpu c after.0 after.1)) (local_of instr c.regs) (Local, c)

-- the values after an act
abbrev pub values_after : Act → Values → Values
values_after (Delay (entries.Write word value)) values = with_value word value values
values_after (Locked word value (Some new)) values = with_value word new values
values_after _ values = values

-- the events of at most n instructions of a program
abbrev pub events_within : ℕ → List ℕ → List Instr → Cpu → Values → List Event
events_within zero shape program c values = []
events_within (suc n) shape program c values = option_map_or (λ instr.
    let done = done_by instr shape c values in
    events_shown done.0 ++ events_within n shape program done.1 (values_after done.0 values)) (next_instruction program c) []

-- whether the program comes to its end, or traps, within n instructions
abbrev pub ends_within : ℕ → List ℕ → List Instr → Cpu → Values → Bool
ends_within zero shape program c values = is_none (next_instruction program c)
ends_within (suc n) shape program c values = option_map_or (λ instr.
    let done = done_by instr shape c values in
    ends_within n shape program done.1 (values_after done.0 values)) (next_instruction program c) true

-- the value of each word, as a processor of a state sees it
abbrev pub values_seen : State → Processor → Values
values_seen s c = seen_value (contents_of s.shape c.buffer s.memory)

-- the events of at most n instructions of a processor, run alone from a state
abbrev pub events_alone : ℕ → State → Processor → List Event
events_alone n s c = events_within n s.shape (program_of c) (cpu_of c) (values_seen s c)

-- whether its program comes to its end within n instructions
abbrev pub ends_alone : ℕ → State → Processor → Bool
ends_alone n s c = ends_within n s.shape (program_of c) (cpu_of c) (values_seen s c)
