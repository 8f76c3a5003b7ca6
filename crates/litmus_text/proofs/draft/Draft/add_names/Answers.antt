use Rattle.std.proofs.Common.{rules}
use Rattle.lines_layout.specs.Layouts.{texts}
use Rattle.litmus_text.proofs.DraftKept.{line_keeps}
use Rattle.litmus_text.proofs.draft.Draft.add_names.Goals.{in-Ok, in-Err}
use Rattle.litmus_text.proofs.draft.Draft.add_names.Goals as goal

pub invariant_of-self : goal.invariant_of-self
invariant_of-self c = elim c.match-add_line.branch [
  | in-Ok w ↦ line_keeps _ _ (texts c.args.names.now) w.in-Ok.ensures.lines c.self.invariant
  | in-Err w ↦ search rules
]
