use Rattle.std.proofs.Common.{◌≡◌, map, take}
use Rattle.machine.specs.State.{Processor}
use Rattle.hunt.specs.Outcomes.{register_values}
use Rattle.hunt.proofs.ends.registers.Given as goal

abbrev pub invariant-loop-p : goal.invariant-loop-p
invariant-loop-p l = l.registers.items ≡ map (λ (c : Processor). register_values c.regs) (take l.p l.view.processors)
