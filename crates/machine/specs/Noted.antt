-- What the code keeps beside a run, and no rule of the model: for each processor its delayed operations, in the order of
-- its store buffer.
use Rattle.std.specs.Prelude.{◌≡◌, ℕ, ◌<◌, Option, Some, List, length, slice_get}
use Rattle.std.specs.Option.{option_and_then}
use Rattle.store_buffer.specs.Buffers.{buffer_room}
use Rattle.processor.specs.declared.act.Act.TheVariants.{Delay}
use Rattle.machine.specs.declared.step.Seen.{Seen}
use Rattle.machine.specs.declared.step.Seen.TheVariants.{Ran, Left}
use Rattle.machine.specs.Effects.{delayed_next}

-- there is room for what is delayed, and what leaves is there
abbrev pub CanNote : List (List ℕ) → Seen → Type 0
CanNote delayed (Ran p place (Delay entry)) = (own : List ℕ) × (slice_get delayed p ≡ Some own) × (length own < buffer_room)
CanNote delayed (Left p i entry) = (own : List ℕ) × (slice_get delayed p ≡ Some own) × (i < length own)
CanNote delayed _ = Unit {0}

-- For each processor its delayed operations after the n-th step.
pub record IsNoted (n : ℕ) (seen : Seen) (old new : List (List ℕ)) : Type 0 where
  pub count : length new ≡ length old
  pub each : (p : ℕ) (own : List ℕ) → slice_get old p ≡ Some own → slice_get new p ≡ Some (delayed_next p n own seen)

-- the delayed operation at a place of a processor's store buffer
abbrev pub delayed_at : List (List ℕ) → ℕ → ℕ → Option ℕ
delayed_at delayed p i = option_and_then (λ own. slice_get own i) (slice_get delayed p)
