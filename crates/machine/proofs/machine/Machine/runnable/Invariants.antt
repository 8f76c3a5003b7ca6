use Rattle.std.proofs.Common.{◌≡◌}
use Rattle.machine.specs.Accepted.{accepts, mask_below}
use Rattle.machine.specs.declared.step.Step.TheVariants.{Exec}
use Rattle.machine.proofs.machine.Machine.runnable.Given as goal

abbrev pub invariant-loop-p : goal.invariant-loop-p
invariant-loop-p l = l.mask ≡ mask_below l.p (λ p. accepts l.self (Exec p))
