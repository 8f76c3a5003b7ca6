use Rattle.jobs.proofs.OutcomeTexts.{processors_more}
use Rattle.jobs.proofs.outcome_text.push_numbers.Goals as goal

pub loop-p-preserved : goal.loop-p-preserved
loop-p-preserved c =
    processors_more c.args.layout.now c.args.processors c.loop-p.p c.loop-p.rest.now c.behind-rest.result.now _ _ _
    c.loop-p-test.true c.in_ok-push_processor.ensures c.behind-rest.ensures c.loop-p.invariant
