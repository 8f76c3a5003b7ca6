use Rattle.debugger.proofs.SpareMachines.{given_here}
use Rattle.debugger.proofs.past.Past.keep_to.Goals as goal

pub invariant_of-self : goal.invariant_of-self
invariant_of-self c = (c.self.invariant.0, given_here _ _ _ c.args.self.now c.args.checkpoints.now _ c.self.view_is c.requires c.keep_to-given.ensures.given)

pub invariant_of-self-then-is_some-2 : goal.invariant_of-self-then-is_some-2
invariant_of-self-then-is_some-2 c = (c.self.invariant.0, given_here _ _ _ c.args.self.now c.args.checkpoints.now _ c.self.view_is c.requires c.keep_to-given.ensures.given)
