-- A command is a program too; what is made, option by option and command by command.
use Rattle.std.proofs.Common.{◌≡◌, ◌+◌, ◌<◌, ◌∷◌, ℕ, List, Result, Ok, Err, drop, get_or, length, map, subst}
use Rattle.std.proofs.lemmas.List.{drop_more}
use Rattle.std.specs.declared.alloc.AllocError.{AllocError}
use Rattle.clap.specs.Words.{App, Rule, with_rule}
use Rattle.clap.specs.declared.builder.command.Command.{Command}
use Rattle.px86.specs.Building.{IsCommand, IsProgram}
use Rattle.px86.specs.Commands.{rule_of, with_command, with_commands, with_rules}
use Rattle.px86.specs.declared.command.CommandOption.{CommandOption}
use Rattle.px86.specs.declared.command.Command as ours

pub command_is_program : (made : Result Command AllocError) (app : App) → IsCommand made app → IsProgram made app
command_is_program (Ok command) app is = is.0
command_is_program (Err error) app is = is

-- with these options, what was made becomes a command of this shape
abbrev pub BecomesWith : List Rule → Result Command AllocError → App → Type 0
BecomesWith rules made app = (now : App) × IsCommand made now × (with_rules now rules ≡ app)

pub one_more : (options : List CommandOption) (i : ℕ) (d : CommandOption) (made next : Result Command AllocError) (app : App) → i < length options
    → BecomesWith (map rule_of (drop i options)) made app → ((now : App) → IsCommand made now → IsCommand next (with_rule now (rule_of (get_or options i d))))
    → BecomesWith (map rule_of (drop (i + 1) options)) next app
one_more options i d made next app in_range becomes more =
    go (subst (λ (os : List CommandOption). BecomesWith (map rule_of os) made app) (drop_more options i d in_range) becomes)
  where
    go : BecomesWith (rule_of (get_or options i d) ∷ map rule_of (drop (i + 1) options)) made app → BecomesWith (map rule_of (drop (i + 1) options)) next app
    go b = (with_rule b.0 (rule_of (get_or options i d)), more b.0 b.1, b.2)

-- with these commands, what was made becomes a program of this shape
abbrev pub GrowsWith : List ours.Command → Result Command AllocError → App → Type 0
GrowsWith commands made app = (now : App) × IsProgram made now × (with_commands now commands ≡ app)

pub one_more_command : (commands : List ours.Command) (i : ℕ) (d : ours.Command) (made next : Result Command AllocError) (app : App) → i < length commands
    → GrowsWith (drop i commands) made app → ((now : App) → IsProgram made now → IsProgram next (with_command now (get_or commands i d)))
    → GrowsWith (drop (i + 1) commands) next app
one_more_command commands i d made next app in_range grows more =
    go (subst (λ (cs : List ours.Command). GrowsWith cs made app) (drop_more commands i d in_range) grows)
  where
    go : GrowsWith (get_or commands i d ∷ drop (i + 1) commands) made app → GrowsWith (drop (i + 1) commands) next app
    go g = (with_command g.0 (get_or commands i d), more g.0 g.1, g.2)
