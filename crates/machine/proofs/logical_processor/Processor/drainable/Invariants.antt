use Rattle.std.proofs.Common.{length}
use Rattle.std.specs.Prelude.{is_ok}
use Rattle.machine.specs.Processors.{drain_of}
use Rattle.machine.proofs.AcceptedMasks.{AreTested, AreFree}
use Rattle.machine.proofs.logical_processor.Processor.drainable.Given as goal

abbrev pub invariant-loop-left : goal.invariant-loop-left
invariant-loop-left l = AreTested (length l.self.buffer) (λ i. is_ok (drain_of l.self l.pending.memory i)) l.left l.mask × AreFree l.self.buffer l.left

abbrev pub decreases-loop-left : goal.decreases-loop-left
decreases-loop-left l = l.left
