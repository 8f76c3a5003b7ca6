use Rattle.std.proofs.Common.{arith, refl}
use Rattle.schedule.proofs.MaskNumbers.{none_in}
use Rattle.schedule.proofs.choices.Choices.new.Goals as goal

pub invariant_of-result : goal.invariant_of-result
invariant_of-result c = rw none_in (omega arith, omega arith, omega arith)

pub returns : goal.returns
returns c = rw none_in refl
