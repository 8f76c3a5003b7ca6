use Rattle.std.proofs.Common.{◌≡◌, ◌++◌, drop}
use Rattle.choices.specs.Choices.{picked}
use Rattle.mends.proofs.task.picked.Given as goal

abbrev pub invariant-loop-place : goal.invariant-loop-place
invariant-loop-place l = l.set.items ++ picked (drop l.place l.choice) (drop l.place l.candidates) ≡ picked l.choice l.candidates
