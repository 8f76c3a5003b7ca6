use Rattle.std.proofs.Common.{◌≡◌, ℕ, ◌≤◌, ◌<◌, ◌+◌, ◌*◌, Bool, Some, false, Contains, length, slice_get}
use Rattle.std.specs.Global.{Vec}
use Rattle.choices.specs.Choices.{with_one}
use Rattle.choices.specs.Waiting.{AreChoices, HasWithin, weight, weight_of}
use Rattle.choices.proofs.queue.spread.Given as goal

abbrev pub invariant-loop-place : goal.invariant-loop-place
invariant-loop-place l = record {
  choices : AreChoices (length l.choice) l.queue.items;
  kept : (other : Vec Bool) → Contains l.initial.queue.items other → Contains l.queue.items other;
  above : (place : ℕ) → place < l.place → slice_get l.bound place ≡ Some false → HasWithin l.queue.items (with_one place l.choice);
  weight : (length l.choice + 1) * weight l.queue.items ≤ (length l.choice + 1) * weight l.initial.queue.items + l.place * weight_of l.choice;
}
