use Rattle.std.proofs.Common.{◌≡◌, drop}
use Rattle.schedule.specs.Choices.{drains_in}
use Rattle.schedule.specs.Masks.{nth_or_rest}
use Rattle.schedule.proofs.choices.nth_drain.Given as goal

abbrev pub invariant-loop-p : goal.invariant-loop-p
invariant-loop-p l = nth_or_rest (drains_in 0 l.masks) l.n ≡ nth_or_rest (drains_in l.p (drop l.p l.masks)) l.rest
