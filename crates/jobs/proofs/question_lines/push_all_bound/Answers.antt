use Rattle.commands.proofs.NamedTexts.{lines_more}
use Rattle.jobs.specs.QuestionReports.{bound_text}
use Rattle.jobs.proofs.question_lines.push_all_bound.Goals as goal

pub loop-line-preserved : goal.loop-line-preserved
loop-line-preserved c =
    lines_more (bound_text c.args.layout.now) c.lines-line-items.result.now c.args.layout.now c.loop-line.line-index c.line-item.result c.names.result.now c.names-in-loop-line.result.now
    c.loop-line.rest.now c.behind-rest.result.now _ _ _
    c.lines-line-items.ensures.value c.loop-line-test.true c.line-item.is c.names.ensures c.names-in-loop-line.ensures c.behind-rest.ensures c.in_ok-push_line_bound.ensures c.loop-line.invariant
