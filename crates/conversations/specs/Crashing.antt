-- What `crash V ..` leaves.
use Rattle.std.specs.Prelude.{◌≡◌, ℕ, ◌+◌, ◌<◌, Option, Some, None, List, length}
use Rattle.litmus_text.specs.declared.text_lines.LinedObject.{LinedObject}
use Rattle.machine.specs.Limits.{max_turns}
use Rattle.machine.specs.declared.step.Step.{Step}
use Rattle.images.specs.Images.{IsImage, closed_set_of, image_at}
use Rattle.explore.specs.Explored.{fallen}
use Rattle.explore.specs.Falls.{fall_at}
use Rattle.explore.specs.Questions.{AreAlike}
use Rattle.explore.specs.Sound.{IsSound}
use Rattle.debugger.specs.Halts.{halt_of}
use Rattle.debugger.specs.declared.halt.Halt.TheVariants.{Stop}
use Rattle.conversations.specs.declared.breaks.Cut.{Cut}
use Rattle.conversations.specs.Answered.{Place, crashed_at}
use Rattle.conversations.specs.Breaks.{cut_of}

-- No stop and no break comes before the last of these steps.
pub record IsUnstopped (lined : LinedObject) (p : Place) (steps : List Step) : Type 0 where
  pub stops : (id n : ℕ) → halt_of p.session steps ≡ Stop id n → n ≡ length steps
  pub breaks : (cut : Cut) → cut_of lined p.declared p.session.past.state steps ≡ Some cut → cut.count ≡ length steps

-- the same of the crash behind which the entries at these places have left
abbrev pub IsUnstoppedCrash : LinedObject → Place → Option (List ℕ) → Type 0
IsUnstoppedCrash lined p None = Unit {0}
IsUnstoppedCrash lined p (Some places) = IsUnstopped lined p (fall_at p.session.past.state.memory.pending places)

-- An image that a crash may leave, of a state that a loaded machine can have, with turns left for all that is pending. Where no stop
-- and no break comes before, the state after the answer is what a crash leaves, and its persisted values are this image.
abbrev pub CrashesLeaveTheImage : Type 0
CrashesLeaveTheImage = (lined : LinedObject) (p : Place) (image : List ℕ) →
    let s = p.session.past.state in
    let t = (crashed_at lined p (closed_set_of s image)).place.session.past.state in
    IsSound s → s.turns + length s.memory.pending < max_turns → IsImage s image → IsUnstoppedCrash lined p (closed_set_of s image)
    → (persisted : List ℕ) × (image ≡ image_at s.shape persisted) × AreAlike t (fallen s persisted)
