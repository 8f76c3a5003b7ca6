use Rattle.std.proofs.Common.{◌≡◌, ◌<◌, ◌∙◌, ◌++◌, Some, ap, subst, sym}
use Rattle.machine.specs.State.{State}
use Rattle.machine.specs.Steps.{End}
use Rattle.explore.specs.Followed.{after, all_own, first_own, own_end, owns_of}
use Rattle.explore.specs.Gathered.{followed_runs}
use Rattle.explore.specs.Sets.{included_all}
use Rattle.explore.proofs.OwnStepsFollowed.{first_fewer}
use Rattle.explore.proofs.OwnStepsNoted.{still_end, still_ran, still_siblings, still_steps}
use Rattle.explore.proofs.own.follow.Goals as goal

pub loop-step-smaller : goal.loop-step-smaller
loop-step-smaller c =
    let s = c.loop-step.here in
    let first : first_own c.args.locals s ≡ Some c.in-Some.step = sym c.first_own.ensures ∙ c.in-Some.is in
    let is : c.run.new.self ≡ after s c.in-Some.step = sym (ap (λ (e : End). e.state) c.run.ensures.run) in
    subst (λ (t : State). all_own t.processors < all_own s.processors) (sym is) (first_fewer c.args.locals s c.in-Some.step first)

pub loop-step-preserved : goal.loop-step-preserved
loop-step-preserved c =
    let locals = c.args.locals in
    let s = c.loop-step.here in
    let t = c.run.new.self in
    let step = c.in-Some.step in
    let first : first_own locals s ≡ Some step = sym c.first_own.ensures ∙ c.in-Some.is in
    let is : t ≡ after s step = sym (ap (λ (e : End). e.state) c.run.ensures.run) in record {
      end = still_end locals s t step first is (own_end locals c.args.here.now) c.loop-step.invariant.end;
      steps = still_steps locals s t step first is c.loop-step.steps.items c.push.new.self.items (c.args.steps.now.items ++ owns_of locals c.args.here.now) c.in_ok-push.ensures.items c.loop-step.invariant.steps;
      ran = still_ran locals s t step first is c.loop-step.ran c.note_step.new.ran (included_all c.args.ran.now (followed_runs locals c.args.here.now)) c.in_ok-note_step.ensures c.loop-step.invariant.ran;
      siblings = still_siblings s t c.args.here.now step is c.loop-step.invariant.siblings;
    }
