-- Which steps a state accepts, by kinds, one bit a step.
use Rattle.std.specs.Prelude.{ℕ, ◌≡◌, ◌+◌, Bool, is_ok, length, map, slice_get}
use Rattle.std.specs.List.{range_with_len}
use Rattle.std.specs.Option.{option_map_or}
use Rattle.std.specs.Simd.Lanes.{mask_l}
use Rattle.machine.specs.declared.step.Step.{Step}
use Rattle.machine.specs.declared.step.Step.TheVariants.{Exec, Drain, Persist}
use Rattle.persist_buffer.specs.State.{Memory}
use Rattle.machine.specs.State.{Processor, State}
use Rattle.machine.specs.Processors.{drain_of}
use Rattle.machine.specs.Steps.{step_of}

-- whether a state accepts a step
abbrev pub accepts : State → Step → Bool
accepts s step = is_ok (step_of s step)

-- the numbers below n that pass a test, one bit a number
abbrev pub mask_below : ℕ → (ℕ → Bool) → ℕ
mask_below n test = mask_l (map test (range_with_len 0 n))

-- the processors whose Exec is accepted
abbrev pub runnable_of : State → ℕ
runnable_of s = mask_below (length s.processors) (λ p. accepts s (Exec p))

-- the places of a processor's store buffer whose entries may leave and find room in the memory
abbrev pub drainable_into : Memory → Processor → ℕ
drainable_into m c = mask_below (length c.buffer) (λ i. is_ok (drain_of c m i))

-- the places of processor p's store buffer whose Drain is accepted; none where there is no such processor
abbrev pub drainable_of : State → ℕ → ℕ
drainable_of s p = option_map_or (λ c. mask_below (length c.buffer) (λ i. accepts s (Drain p i))) (slice_get s.processors p) 0

-- the lines whose Persist is accepted
abbrev pub persistable_of : State → ℕ
persistable_of s = mask_below (length s.shape) (λ line. accepts s (Persist line))

-- For every test: where a mask has the numbers below n that pass, and `passes` says whether n does, the next has those below n + 1. (Of a helper in the code, and no rule.)
abbrev pub IsNextMask : ℕ → ℕ → Bool → ℕ → Type 0
IsNextMask mask n passes next = (test : ℕ → Bool) → mask ≡ mask_below n test → passes ≡ test n → next ≡ mask_below (n + 1) test
