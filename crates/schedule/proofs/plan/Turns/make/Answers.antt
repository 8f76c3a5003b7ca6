use Rattle.std.proofs.Common.{sym, ap, ◌∙◌, refl, subst}
use Rattle.machine.specs.State.{State}
use Rattle.machine.specs.Programs.{AreSiblings}
use Rattle.machine.proofs.ProgramsStay.{step_sibling}
use Rattle.schedule.specs.Turns.{Turns, rest_of}
use Rattle.schedule.proofs.OneTurn.{turn_chooses, next_random, next_none, next_refused, next_made}
use Rattle.schedule.proofs.plan.Turns.make.Goals as goal

pub invariant_of-self-in_err-step : goal.invariant_of-self-in_err-step
invariant_of-self-in_err-step c =
    next_random c.self.inside.plan c.self.inside.number.value c.self.inside.left.start c.self.inside.left.end c.in_ok-turn.turn c.next.new.self.start c.next.new.self.end
    _ _ _ c.in_ok-turn.ensures.steps c.self.invariant c.next_word-word.ensures

pub invariant_of-self-in_default : goal.invariant_of-self-in_default
invariant_of-self-in_default c =
    next_random c.self.inside.plan c.self.inside.number.value c.self.inside.left.start c.self.inside.left.end c.in_ok-turn.turn c.next.new.self.start c.next.new.self.end
    _ _ _ c.in_ok-turn.ensures.steps c.self.invariant c.next_word-word.ensures

pub invariant_of-self-2 : goal.invariant_of-self-2
invariant_of-self-2 c =
    next_random c.self.inside.plan c.self.inside.number.value c.self.inside.left.start c.self.inside.left.end c.in_ok-turn.turn c.next.new.self.start c.next.new.self.end
    _ _ _ c.in_ok-turn.ensures.steps c.self.invariant c.next_word-word.ensures

-- no step is enabled
pub returns-in_err-step-clause-end : goal.returns-in_err-step-clause-end
returns-in_err-step-clause-end c =
    let s = c.args.machine.now in
    let step =
    turn_chooses c.self.inside.plan c.self.inside.number.value c.self.inside.left.start c.self.inside.left.end c.in_ok-turn.turn c.next.new.self.start c.next.new.self.end
    s _ _ _ _ c.in_ok-turn.ensures.steps c.self.invariant c.next_word-word.ensures c.turn_step.ensures in
    rw c.from_residual-in_err-step.ensures
    (ap (λ (t : Turns). rest_of t s) (sym c.self.view_is)
    ∙ next_none c.self.inside.plan c.self.inside.number.value c.self.inside.left.start c.self.inside.left.end c.in_ok-turn.turn c.next.new.self.start c.next.new.self.end
    s c.in_ok-turn.ensures.steps (step ∙ c.in_err-step.was))

-- the step is refused
pub returns-in_default-clause-end : goal.returns-in_default-clause-end
returns-in_default-clause-end c =
    let s = c.args.machine.now in
    let step =
    turn_chooses c.self.inside.plan c.self.inside.number.value c.self.inside.left.start c.self.inside.left.end c.in_ok-turn.turn c.next.new.self.start c.next.new.self.end
    s _ _ _ _ c.in_ok-turn.ensures.steps c.self.invariant c.next_word-word.ensures c.turn_step.ensures in
    ap (λ (t : Turns). rest_of t s) (sym c.self.view_is)
    ∙ next_refused c.self.inside.plan c.self.inside.number.value c.self.inside.left.start c.self.inside.left.end c.in_ok-turn.turn c.next.new.self.start c.next.new.self.end
    s c.step.new.self c.in_ok-step.step _ c.in_ok-turn.ensures.steps (step ∙ c.in_ok-step.was) c.in_default.ensures.refused c.in_default.ensures.same

pub returns-in_default-clause-programs : goal.returns-in_default-clause-programs
returns-in_default-clause-programs c = subst (λ (u : State). AreSiblings u c.args.machine.now) (sym c.in_default.ensures.same) (record { shape = refl; programs = refl })

-- the step is made
pub returns-clause-step : goal.returns-clause-step
returns-clause-step c =
    let s = c.args.machine.now in
    let step =
    turn_chooses c.self.inside.plan c.self.inside.number.value c.self.inside.left.start c.self.inside.left.end c.in_ok-turn.turn c.next.new.self.start c.next.new.self.end
    s _ _ _ _ c.in_ok-turn.ensures.steps c.self.invariant c.next_word-word.ensures c.turn_step.ensures in
    ap (λ (t : Turns). rest_of t s) (sym c.self.view_is)
    ∙ next_made c.self.inside.plan c.self.inside.number.value c.self.inside.left.start c.self.inside.left.end c.in_ok-turn.turn c.next.new.self.start c.next.new.self.end
    s c.step.new.self c.in_ok-step.step c.in-Ok.seen c.in_ok-turn.ensures.steps (step ∙ c.in_ok-step.was) c.in-Ok.ensures.accepted

pub returns-clause-programs : goal.returns-clause-programs
returns-clause-programs c = step_sibling c.args.machine.now c.step.new.self c.in_ok-step.step c.in-Ok.seen c.in-Ok.ensures.accepted
