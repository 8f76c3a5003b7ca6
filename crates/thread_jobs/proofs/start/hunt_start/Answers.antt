use Rattle.std.proofs.Common.{ℕ, Ok, subst, sym}
use Rattle.machine.specs.Objects.{opening}
use Rattle.machine.specs.Steps.{run_of}
use Rattle.commands.specs.Programs.{list_work, state_work}
use Rattle.commands.specs.Works.{Makes}
use Rattle.commands.proofs.WorksInTurn.{made_done, made_next}
use Rattle.thread_jobs.specs.HuntStarts.{asked_work, range_work, start_work}
use Rattle.thread_jobs.proofs.start.hunt_start.Goals as goal

pub returns : goal.returns
returns c =
    let text = c.args.text.now in let schedules = c.args.schedules.now in let program = c.args.program.now in let steps = c.args.steps.now in
    let lined = c.in_ok-lined.lined in let cond = c.in_ok-lined.cond in let list = c.in_ok-steps.steps.items in let are = c.in_ok-range.ensures.numbers in
    let told : Makes (start_work text schedules program steps) (Ok (record { object = lined.object; lines = lined.lines; condition = cond; steps = list; state = c.in_ok-machine.machine; schedules = schedules })) =
    made_next (asked_work text program) _ (lined, cond) _ c.in_ok-lined.ensures
    (made_next (range_work schedules) _ tt _ c.in_ok-range.ensures.range
    (made_next (list_work steps) _ list _ c.in_ok-steps.ensures
    (made_next (state_work (run_of list (opening lined.object))) _ c.in_ok-machine.machine _ (rw c.deref.ensures.value at c.in_ok-machine.ensures.state)
    (made_done _)))) in
    subst
    (λ (z : ℕ × ℕ). Makes (start_work text schedules program steps) (Ok (record {
      object = lined.object;
      lines = lined.lines;
      condition = cond;
      steps = list;
      state = c.in_ok-machine.machine;
      schedules = record { plan = schedules.plan; first = z.0; runs = z.1 };
    })))
    (λ i. (sym are.0 i, sym are.1 i)) told
