use Rattle.debug_scripts.proofs.Plans.{put_scripted, put_unloaded}
use Rattle.debug_scripts.proofs.OwnIds.{script_is_plan}
use Rattle.debug_scripts.proofs.command.put_script.Goals.{in-Ok, in-Err}
use Rattle.debug_scripts.proofs.command.put_script.Goals as goal

pub put_plan-done-requires-clause-plan : goal.put_plan-done-requires-clause-plan
put_plan-done-requires-clause-plan g c =
    script_is_plan c.args.object.now (g.F.Form.names c.args.form.now) c.layout.result.now c.args.script.now c.in_ok-script.script c.in-Ok.machine c.requires.names c.layout.ensures c.in_ok-script.ensures c.in-Ok.ensures

pub returns : goal.returns
returns g c = elim c.match-load.branch [
  | in-Ok w ↦ rw (w.page-is, w.done-is) (put_scripted (g.F.Form.Tells c.args.form.now) c.args.object.now (g.F.Form.names c.args.form.now) c.layout.result.now c.args.script.now
      c.in_ok-script.script w.in-Ok.machine _ _ c.requires.names c.layout.ensures c.in_ok-script.ensures w.in-Ok.ensures w.put_plan-done.ensures)
  | in-Err w ↦ rw (w.page-is, w.done-is) (put_unloaded c.args.object.now c.layout.result.now c.args.script.now c.in_ok-script.script w.in-Err.fault c.layout.ensures c.in_ok-script.ensures w.in-Err.ensures)
]
