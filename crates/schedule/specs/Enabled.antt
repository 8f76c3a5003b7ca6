-- The steps that a state accepts.
use Rattle.std.specs.Prelude.{ℕ, ◌+◌, ◌*◌, ◌<◌, ◌≡◌, ◌≢◌, ◌⊎◌, Bool, true, false, not, List, [], ◌∷◌, ◌++◌, length, map}
use Rattle.std.specs.List.{filter, range_with_len}
use Rattle.lines_layout.specs.Lines.{max_lines}
use Rattle.isa.specs.Loadables.{max_processors}
use Rattle.store_buffer.specs.Buffers.{buffer_room}
use Rattle.machine.specs.declared.step.Step.{Step}
use Rattle.machine.specs.declared.step.Step.TheVariants.{Exec, Drain, Persist, Settle, Crash}
use Rattle.machine.specs.Accepted.{accepts}
use Rattle.machine.specs.State.{Processor, State}

-- each processor runs an instruction
abbrev pub execs : State → List Step
execs s = map Exec (range_with_len 0 (length s.processors))

-- each entry of processor p's store buffer leaves it
abbrev pub drains_of : ℕ → Processor → List Step
drains_of p c = map (Drain p) (range_with_len 0 (length c.buffer))

-- the same for processors of which the first has number p
abbrev pub drains_from : ℕ → List Processor → List Step
drains_from p [] = []
drains_from p (c ∷ cs) = drains_of p c ++ drains_from (p + 1) cs

-- each entry of each processor's store buffer leaves it
abbrev pub drains : State → List Step
drains s = drains_from 0 s.processors

-- each line persists its oldest pending write
abbrev pub persists : State → List Step
persists s = map Persist (range_with_len 0 (length s.shape))

-- the steps that name what is there, crashes apart
abbrev pub possible_steps : State → List Step
possible_steps s = execs s ++ drains s ++ persists s ++ Settle ∷ []

-- those of them that the state accepts
abbrev pub enabled_of : State → List Step
enabled_of s = filter (accepts s) (possible_steps s)

-- the Drain steps among them
abbrev pub enabled_drains : State → List Step
enabled_drains s = filter (accepts s) (drains s)

-- whether a step is one of the memory alone: it persists a write, or settles a marker
abbrev pub is_memory_step : Step → Bool
is_memory_step (Exec p) = false
is_memory_step (Drain p i) = false
is_memory_step (Persist line) = true
is_memory_step Settle = true
is_memory_step Crash = false

-- the enabled steps from which a turn chooses: of a lazy schedule those that are no memory steps, otherwise all
abbrev pub choices_of : Bool → State → List Step
choices_of true s = filter (λ step. not (is_memory_step step)) (enabled_of s)
choices_of false s = enabled_of s

-- The state accepts the step, which is no crash.
abbrev pub IsEnabled : State → Step → Type 0
IsEnabled s step = (accepts s step ≡ true) × (step ≢ Crash)

-- no more steps than this can be enabled at once
abbrev pub max_enabled : ℕ
max_enabled = max_processors + max_processors * buffer_room + max_lines + 1

-- Exec comes first, then Drain, Persist, Settle and Crash, and within a kind the lower numbers do.
abbrev pub ComesBefore : Step → Step → Type 0
ComesBefore (Exec p) (Exec q) = p < q
ComesBefore (Exec p) _ = Unit {0}
ComesBefore (Drain p i) (Exec q) = ⊥
ComesBefore (Drain p i) (Drain q j) = (p < q) ⊎ ((p ≡ q) × (i < j))
ComesBefore (Drain p i) _ = Unit {0}
ComesBefore (Persist line) (Persist other) = line < other
ComesBefore (Persist line) Settle = Unit {0}
ComesBefore (Persist line) Crash = Unit {0}
ComesBefore Settle Crash = Unit {0}
ComesBefore _ _ = ⊥
