use Rattle.std.proofs.Common.{drop, map}
use Rattle.clap.specs.Words.{App}
use Rattle.px86.specs.Building.{IsCommand}
use Rattle.px86.specs.Commands.{rule_of, with_rules}
use Rattle.px86.proofs.Building.{BecomesWith}
use Rattle.px86.proofs.arguments.with_options.Given as goal

abbrev pub invariant-loop-option : goal.invariant-loop-option
invariant-loop-option l = (app : App) → IsCommand l.fn.command app
    → BecomesWith (map rule_of (drop l.option-index l.options)) l.command (with_rules app (map rule_of l.options))
