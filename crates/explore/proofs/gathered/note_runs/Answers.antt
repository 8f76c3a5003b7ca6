use Rattle.std.proofs.Common.{rules, ◌<◌, length}
use Rattle.explore.proofs.RunsGathered.{runs_next}
use Rattle.explore.proofs.gathered.note_runs.Goals as goal

pub loop-p-preserved : goal.loop-p-preserved
loop-p-preserved c =
    let within : c.loop-p.p < length c.args.here.now.processors = search rules in
    runs_next c.args.here.now c.loop-p.p c.loop-p.ran c.note_run.new.ran _ within c.in_ok-note_run.ensures c.loop-p.invariant
