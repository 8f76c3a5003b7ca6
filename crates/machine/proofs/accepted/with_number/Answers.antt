use Rattle.std.proofs.Common.{◌∙◌, sym}
use Rattle.lines_layout.specs.Lines.{max_lines}
use Rattle.machine.proofs.MasksWithOneNumberMore.{number_added, number_passed_over}
use Rattle.machine.proofs.accepted.with_number.Goals as goal

pub returns-then-passes : goal.returns-then-passes
returns-then-passes c test before is = number_added test c.args.number max_lines c.args.mask before c.requires (sym is ∙ c.if-passes.true)

pub returns-else-passes : goal.returns-else-passes
returns-else-passes c test before is = number_passed_over test c.args.number max_lines c.args.mask before (sym is ∙ c.if-passes.false)
