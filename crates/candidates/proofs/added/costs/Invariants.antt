use Rattle.std.proofs.Common.{◌≡◌, take}
use Rattle.candidates.specs.Sets.{costs_of}
use Rattle.candidates.proofs.added.costs.Given as goal

abbrev pub invariant-loop-candidate : goal.invariant-loop-candidate
invariant-loop-candidate l = l.costs.items ≡ costs_of (take l.candidate-index l.candidates)
