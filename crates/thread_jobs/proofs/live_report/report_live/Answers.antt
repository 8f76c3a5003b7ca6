use Rattle.std.proofs.Common.{◌≡◌, inl, inr, refl, rules}
use Rattle.std.proofs.lemmas.Result.{err_from_is_err_and}
use Rattle.commands.specs.Programs.{lined_work, list_work}
use Rattle.commands.proofs.WorksInTurn.{made_done, made_first, made_next}
use Rattle.thread_jobs.specs.ThreadReports.{live_command}
use Rattle.thread_jobs.proofs.live_report.report_live.Goals as goal

pub returns-in_err-lined : goal.returns-in_err-lined
unfolding live_command
returns-in_err-lined g c =
    let e = err_from_is_err_and c.from_residual.result c.from_residual.ensures.1 in
    let program : c.deref.result.now ≡ c.args.sources.now.program = search rules in
    rw (e.1, e.2) (inr (_, made_first (lined_work c.args.sources.now.program) _ _ (rw program at c.in_err-lined.ensures), refl))

pub returns-in_err-steps : goal.returns-in_err-steps
unfolding live_command
returns-in_err-steps g c =
    let e = err_from_is_err_and c.from_residual-in_err-steps.result c.from_residual-in_err-steps.ensures.1 in
    let program : c.deref.result.now ≡ c.args.sources.now.program = search rules in
    let steps : c.deref-2.result.now ≡ c.args.sources.now.steps = search rules in
    rw (e.1, e.2) (
    inr (
      _,
      made_next (lined_work c.args.sources.now.program) _ c.in_ok-lined.lined _ (rw program at c.in_ok-lined.ensures)
          (made_first (list_work c.args.sources.now.steps) _ _ (rw steps at c.in_err-steps.ensures)),
      refl,
    )
    )

pub returns : goal.returns
unfolding live_command
returns g c =
    let program : c.deref.result.now ≡ c.args.sources.now.program = search rules in
    let steps : c.deref-2.result.now ≡ c.args.sources.now.steps = search rules in
    inl (
      (c.in_ok-lined.lined, c.in_ok-steps.steps.items),
      made_next (lined_work c.args.sources.now.program) _ c.in_ok-lined.lined _ (rw program at c.in_ok-lined.ensures)
          (made_next (list_work c.args.sources.now.steps) _ c.in_ok-steps.steps.items _ (rw steps at c.in_ok-steps.ensures) (made_done _)),
      rw c.deref-3.ensures.value at c.live_on.ensures,
    )
