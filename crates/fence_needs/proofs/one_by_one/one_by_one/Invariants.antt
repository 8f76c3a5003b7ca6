use Rattle.fence_needs.proofs.NeedsGoOn.{AreFoundSoFar}
use Rattle.fence_needs.proofs.one_by_one.one_by_one.Given as goal

abbrev pub invariant-loop-one : goal.invariant-loop-one
invariant-loop-one g l = AreFoundSoFar l.question l.limit l.object l.left l.needs.items l.one-iterator.rest.items
