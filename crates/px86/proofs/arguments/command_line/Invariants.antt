use Rattle.std.proofs.Common.{drop}
use Rattle.px86.specs.Commands.{all_commands, command_line}
use Rattle.px86.proofs.Building.{GrowsWith}
use Rattle.px86.proofs.arguments.command_line.Given as goal

abbrev pub invariant-loop-command : goal.invariant-loop-command
invariant-loop-command l = GrowsWith (drop l.command-index all_commands) l.program command_line
