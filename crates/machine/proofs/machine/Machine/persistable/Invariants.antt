use Rattle.std.proofs.Common.{◌≡◌}
use Rattle.machine.specs.Accepted.{accepts, mask_below}
use Rattle.machine.specs.declared.step.Step.TheVariants.{Persist}
use Rattle.machine.proofs.machine.Machine.persistable.Given as goal

abbrev pub invariant-loop-line : goal.invariant-loop-line
invariant-loop-line l = l.mask ≡ mask_below l.line (λ line. accepts l.self (Persist line))
