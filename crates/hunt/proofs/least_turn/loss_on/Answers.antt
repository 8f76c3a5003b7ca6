use Rattle.std.proofs.Common.{◌≡◌, ◌+◌, sym, ap, ◌∙◌, subst, refl, arith, Some, None, Ok}
use Rattle.machine.specs.State.{State}
use Rattle.machine.specs.Programs.{AreSiblings}
use Rattle.machine.specs.Steps.{step_of}
use Rattle.schedule.proofs.SchedulesEnd.{schedule_fewer}
use Rattle.hunt.specs.Crashes.{broken_in}
use Rattle.hunt.proofs.TurnsOfOneSchedule.{at_first, at_next, at_last, siblings_on, unbroken_first, unbroken_next, no_loss, first_loss}
use Rattle.hunt.proofs.least_turn.loss_on.Goals as goal

-- the state before the first turn breaks the condition
pub returns-in-Some-clause-loss : goal.returns-in-Some-clause-loss
returns-in-Some-clause-loss c =
    let plan = c.args.search.now.plan in
    let cond = c.args.search.now.cond in
    let number = c.args.number in
    let start = c.args.search.now.machine in
    let at = at_first plan number start c.restore.new.self (record { plan = plan; number = number; turn = 0; left = plan.length }) c.restore.ensures refl in
    let broken : broken_in cond c.restore.new.self ≡ Some c.in-Some.breach = ap (broken_in cond) (sym c.view.ensures) ∙ (sym c.in_ok-breach.ensures ∙ c.in-Some.is) in
    ap Some c.loss_at.ensures
    ∙ first_loss plan cond start number 0 c.restore.new.self c.in-Some.breach (record { plan = plan; number = number; turn = 0; left = plan.length }) at (unbroken_first plan cond start number) broken

pub loop-turn-init : goal.loop-turn-init
loop-turn-init c =
    let plan = c.args.search.now.plan in
    let cond = c.args.search.now.cond in
    let number = c.args.number in
    let start = c.args.search.now.machine in
    let s = c.restore.new.self in
    let at = at_first plan number start s c.new-turns.result c.restore.ensures c.new-turns.ensures in
    let none : broken_in cond s ≡ None = ap (broken_in cond) (sym c.view.ensures) ∙ (sym c.in_ok-breach.ensures ∙ c.in_default.is) in
    record {
      at = at;
      none = none;
      unbroken = unbroken_next plan cond start number 0 s c.new-turns.result at none (unbroken_first plan cond start number);
      programs = subst (λ (u : State). AreSiblings u start) (sym c.restore.ensures) (record { shape = refl; programs = refl });
    }

-- a state breaks the condition
pub returns-in-Some-2-clause-loss : goal.returns-in-Some-2-clause-loss
returns-in-Some-2-clause-loss c =
    let plan = c.args.search.now.plan in
    let cond = c.args.search.now.cond in
    let number = c.args.number in
    let start = c.args.search.now.machine in
    let t = c.loop-turn.turn in
    let s = c.loop-turn.own in
    let u = c.next.new.machine in
    let i = c.loop-turn.invariant in
    let step = c.in-Some-next.field-0-0 in
    let at = at_next plan number start t s c.loop-turn.turns i.at u step c.in-Some-next.seen c.next.new.self c.in-Some-next.ensures.step c.in-Some-next.ensures.seen in
    let made = subst (λ (v : State). step_of s step ≡ Ok (c.in-Some-next.seen, v)) (sym c.view-in-loop-turn.ensures) c.in-Some-next.ensures.seen in
    let told = c.in_ok-breach-2.ensures s step made i.none in
    let broken : broken_in cond u ≡ Some c.in-Some-2.breach = ap (broken_in cond) (sym c.view-in-loop-turn.ensures) ∙ (sym told ∙ c.in-Some-2.is) in
    ap Some c.loss_at-in-Some-2.ensures ∙ first_loss plan cond start number (t + 1) u c.in-Some-2.breach c.next.new.self at i.unbroken broken

pub loop-turn-preserved : goal.loop-turn-preserved
loop-turn-preserved c =
    let plan = c.args.search.now.plan in
    let cond = c.args.search.now.cond in
    let number = c.args.number in
    let start = c.args.search.now.machine in
    let t = c.loop-turn.turn in
    let s = c.loop-turn.own in
    let u = c.next.new.machine in
    let i = c.loop-turn.invariant in
    let step = c.in-Some-next.field-0-0 in
    let at = at_next plan number start t s c.loop-turn.turns i.at u step c.in-Some-next.seen c.next.new.self c.in-Some-next.ensures.step c.in-Some-next.ensures.seen in
    let made = subst (λ (v : State). step_of s step ≡ Ok (c.in-Some-next.seen, v)) (sym c.view-in-loop-turn.ensures) c.in-Some-next.ensures.seen in
    let told = c.in_ok-breach-2.ensures s step made i.none in
    let none : broken_in cond u ≡ None = ap (broken_in cond) (sym c.view-in-loop-turn.ensures) ∙ (sym told ∙ c.in_default-2.is) in
    record {
      at = at;
      none = none;
      unbroken = unbroken_next plan cond start number (t + 1) u c.next.new.self at none i.unbroken;
      programs = siblings_on start s u i.programs c.in-Some-next.ensures.programs;
    }

-- the schedule has ended
pub returns-in_default-next-clause-loss : goal.returns-in_default-next-clause-loss
returns-in_default-next-clause-loss c =
    let plan = c.args.search.now.plan in
    let number = c.args.number in
    let start = c.args.search.now.machine in
    let t = c.loop-turn.turn in
    let s = c.loop-turn.own in
    let i = c.loop-turn.invariant in
    no_loss plan c.args.search.now.cond start number t (at_last plan number start t s c.loop-turn.turns i.at c.next.new.machine c.in_default-next.ensures.end) i.unbroken

-- all turns were made
pub returns-clause-loss : goal.returns-clause-loss
returns-clause-loss c =
    let plan = c.args.search.now.plan in
    let number = c.args.number in
    let start = c.args.search.now.machine in
    let t = c.loop-turn.turn in
    let fewer = schedule_fewer plan number start in
    no_loss plan c.args.search.now.cond start number t (omega (arith, fewer, c.loop-turn-test.false)) c.loop-turn.invariant.unbroken
