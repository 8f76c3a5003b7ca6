use Rattle.px86.proofs.Building.{command_is_program}
use Rattle.px86.proofs.arguments.program_alone.Goals as goal

pub returns : goal.returns
returns c = command_is_program c.with_argument.result _ (c.with_argument.ensures _ _ (c.bare_program.ensures.app, c.bare_program.ensures.local) c.argument.ensures)
