use Rattle.std.proofs.Common.{◌≡◌, take}
use Rattle.fence_needs.specs.Changes.{all_replaced}
use Rattle.fence_needs.proofs.change.all_replaced.Given as goal

abbrev pub invariant-loop-processor : goal.invariant-loop-processor
invariant-loop-processor l = l.changed.items ≡ all_replaced l.site l.instr (take l.processor l.processors)
