use Rattle.std.proofs.Common.{◌∙◌, ap, refl, subst, sym}
use Rattle.std.specs.Prelude.{Option}
use Rattle.machine.specs.State.{State}
use Rattle.debugger.specs.Checkpoints.{AreRisingLengths, IsGivenUp}
use Rattle.debugger.proofs.KeptCheckpoints.{rising_pushed, due_new, pushed}
use Rattle.debugger.proofs.SpareMachines.{push_given}
use Rattle.debugger.proofs.checkpoint.Checkpoints.push.Goals.{in-Some, in-None}
use Rattle.debugger.proofs.checkpoint.Checkpoints.push.Goals as goal

pub invariant_of-self : goal.invariant_of-self
invariant_of-self c = (
  ap (λ b. b.capacity) c.push_back.ensures.items ∙ c.self.invariant.0,
  rising_pushed c.args.length c.args.self.now c.push_back.new.self.items c.args.machine (subst AreRisingLengths c.self.view_is c.self.invariant.1) c.requires.low
      (due_new c.args.length c.args.self.now c.requires.due)
      (ap (λ b. b.items) c.push_back.ensures.items ∙ pushed c.args.length _ _ _ _ _ c.self.invariant.0 c.self.view_is refl),
)

pub returns-clause-given : goal.returns-clause-given
returns-clause-given c =
    elim c.match-push_back.branch [
      | in-Some w ↦ subst (λ (q : Option State). IsGivenUp c.args.self.now q) (sym w.result-is) (push_given c.args.self.now c.self.inside.ring.items _ _ _ w.in-Some.oldest c.self.invariant.0 c.self.view_is c.push_back.ensures.value w.in-Some.is)
      | in-None w ↦ subst (λ (q : Option State). IsGivenUp c.args.self.now q) (sym w.result-is) tt
    ]

pub returns-clause-pushed : goal.returns-clause-pushed
returns-clause-pushed c = rw c.requires.due (ap (λ b. b.items) c.push_back.ensures.items ∙ pushed c.args.length _ _ _ _ _ c.self.invariant.0 c.self.view_is refl)
