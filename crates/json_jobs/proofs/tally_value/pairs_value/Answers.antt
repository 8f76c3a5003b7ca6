use Rattle.json_jobs.proofs.Pairs.{lines_more}
use Rattle.json_jobs.proofs.tally_value.pairs_value.Goals as goal

pub loop-line-preserved : goal.loop-line-preserved
loop-line-preserved c =
    lines_more c.lines-line-items.result.now c.args.layout.now c.loop-line.line-index c.line-item.result c.names.result.now c.names-in-loop-line.result.now
    c.loop-line.rest.now c.behind-rest.result.now _ _ _
    c.lines-line-items.ensures.value c.loop-line-test.true c.line-item.is c.names.ensures c.names-in-loop-line.ensures c.behind-rest.ensures c.in_ok-push_line.ensures c.loop-line.invariant
