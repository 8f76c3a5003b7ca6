-- The own steps that follow a state, one after another, to their end. Laws speak of it; no rule.
use Rattle.std.specs.Prelude.{ℕ, zero, suc, ◌+◌, ◌-◌, Bool, true, false, not, ◌&&◌, ◌||◌, Option, Some, None, Result, Ok, Err, List, [], ◌∷◌, is_some, length, if◌then◌else◌}
use Rattle.std.specs.Option.{option_or}
use Rattle.lines_layout.specs.Lines.{word_at}
use Rattle.isa.specs.declared.instr.Access.TheVariants as accesses
use Rattle.isa.specs.declared.instr.FenceKind.TheVariants.{Mfence, Sfence}
use Rattle.isa.specs.declared.instr.Instr.{Instr}
use Rattle.isa.specs.declared.instr.Instr.TheVariants as instrs
use Rattle.isa.specs.Effects.{is_taken}
use Rattle.isa.specs.Operands.{address_meant}
use Rattle.store_buffer.specs.declared.entry.Entry.{Entry}
use Rattle.store_buffer.specs.declared.entry.Entry.TheVariants as entries
use Rattle.machine.specs.declared.refusal.Refusal.{Refusal}
use Rattle.machine.specs.declared.step.Seen.{Seen}
use Rattle.machine.specs.declared.step.Step.{Step}
use Rattle.machine.specs.declared.step.Step.TheVariants.{Exec, Drain}
use Rattle.machine.specs.Processors.{program_of}
use Rattle.machine.specs.State.{Processor, State}
use Rattle.machine.specs.Steps.{run_of, step_of}
use Rattle.explore.specs.Own.{is_before, is_private}

-- whether a step is accepted, and a processor's own, by what it comes to
abbrev pub was_own : Bool → Result (Seen × State) Refusal → Bool
was_own locals (Ok done) = is_private locals done.1 done.0
was_own locals (Err refusal) = false

-- the same of a step of a state
abbrev pub makes_own : Bool → State → Step → Bool
makes_own locals s step = was_own locals (step_of s step)

-- the own step of processor p, if there is one: it runs an instruction, or its oldest entry leaves
abbrev pub own_at : Bool → State → ℕ → Option Step
own_at locals s p =
    if makes_own locals s (Exec p) then Some (Exec p)
    else if makes_own locals s (Drain p 0) then Some (Drain p 0)
    else None

-- the first own step of processors of which the first has the number p
abbrev pub first_from : Bool → State → ℕ → List Processor → Option Step
first_from locals s p [] = None
first_from locals s p (c ∷ cpus) = option_or (own_at locals s p) (first_from locals s (p + 1) cpus)

-- the first own step of a state, if there is one
abbrev pub first_own : Bool → State → Option Step
first_own locals s = first_from locals s 0 s.processors

-- the state that a step leads to
abbrev pub after : State → Step → State
after s step = (run_of (step ∷ []) s).state

-- how many own steps a processor can make at most
abbrev pub most_own : Processor → ℕ
most_own c = (length (program_of c) - c.place) + (length (program_of c) - c.place) + length c.buffer

-- the processors together
abbrev pub all_own : List Processor → ℕ
all_own [] = 0
all_own (c ∷ cs) = most_own c + all_own cs

-- a step, and then those of the state that it leads to; none, where there is no step
abbrev pub then_followed : Option Step → State → (State → List Step) → List Step
then_followed None s more = []
then_followed (Some step) s more = step ∷ more (after s step)

-- the own steps that follow a state, one after another: so many at most
abbrev pub followed : Bool → ℕ → State → List Step
followed locals zero s = []
followed locals (suc n) s = then_followed (first_own locals s) s (followed locals n)

-- all of them
abbrev pub owns_of : Bool → State → List Step
owns_of locals s = followed locals (all_own s.processors) s

-- the state to which they lead: in it no step is a processor's own
abbrev pub own_end : Bool → State → State
own_end locals s = (run_of (owns_of locals s) s).state

-- whether the oldest entry of a store buffer is an sfence
abbrev pub begins_with_fence : List Entry → Bool
begins_with_fence [] = false
begins_with_fence (entries.Sfence ∷ later) = true
begins_with_fence (entry ∷ later) = false

-- Whether an instruction that a processor runs is an own step: it delays an entry; or, where local steps count, it leads to a later place.
abbrev pub runs_own : Bool → List ℕ → Processor → Instr → Bool
runs_own locals shape c (instrs.Memory (accesses.Store source) operand) = is_some (word_at shape (address_meant c.regs operand))
runs_own locals shape c (instrs.Memory (accesses.Flush kind) operand) = is_some (word_at shape (address_meant c.regs operand))
runs_own locals shape c (instrs.Memory access operand) = false
runs_own locals shape c (instrs.Fence Sfence) = true
runs_own locals shape c (instrs.Fence Mfence) = false
runs_own locals shape c (instrs.Jump kind target) = locals && (is_before c.place target || not (is_taken kind c.regs.zero))
runs_own locals shape c instr = locals
