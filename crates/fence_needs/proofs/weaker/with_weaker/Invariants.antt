use Rattle.fence_needs.proofs.WeakerOnesGoOn.{AreWeakenedSoFar}
use Rattle.fence_needs.proofs.weaker.with_weaker.Given as goal

abbrev pub invariant-loop-one : goal.invariant-loop-one
invariant-loop-one g l = AreWeakenedSoFar l.question l.limit l.object l.program l.needs.items l.one-iterator.rest.items
