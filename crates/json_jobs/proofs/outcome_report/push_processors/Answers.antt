use Rattle.json_jobs.proofs.Outcomes.{behind_more, processors_more}
use Rattle.json_jobs.proofs.outcome_report.push_processors.Goals as goal

pub loop-p-preserved : goal.loop-p-preserved
loop-p-preserved c = record {
  items = processors_more c.args.processors c.loop-p.p c.loop-p.rest.now c.behind-rest.result.now _ _ _ _
      c.loop-p-test.true c.in_ok-push.ensures.ok c.in_ok-processor_value.ensures c.behind-rest.ensures c.loop-p.invariant.items;
  behind = behind_more c.args.processors c.loop-p.p c.loop-p.rest.now c.behind-rest.result.now _ c.loop-p-test.true c.behind-rest.ensures c.loop-p.invariant.behind;
}
