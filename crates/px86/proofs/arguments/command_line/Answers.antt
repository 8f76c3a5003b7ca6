use Rattle.std.proofs.Common.{subst}
use Rattle.px86.specs.Building.{IsCommand}
use Rattle.px86.specs.Commands.{all_commands, app_of_row, command_line, Row}
use Rattle.px86.proofs.Building.{one_more_command}
use Rattle.px86.proofs.arguments.command_line.Goals as goal

pub loop-command-preserved : goal.loop-command-preserved
loop-command-preserved c =
    one_more_command all_commands c.loop-command.command-index _ c.loop-command.program c.with_command-program.result command_line c.loop-command-test.true c.loop-command.invariant
    (λ now made. c.with_command-program.ensures now _ made (subst (λ (r : Row). IsCommand c.command_of.result (app_of_row r)) c.row.ensures c.command_of.ensures))
