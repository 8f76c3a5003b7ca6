-- Arguments and commands as they are built: what the parser sees of them.
use Rattle.std.specs.Prelude.{◌≡◌, false, Result, IfOk}
use Rattle.std.specs.declared.alloc.AllocError.{AllocError}
use Rattle.clap.specs.Words.{App, Rule, app_of, rule_of}
use Rattle.clap.specs.declared.builder.arg.Arg.{Arg}
use Rattle.clap.specs.declared.builder.command.Command.{Command}
use Rattle.clap.specs.declared.builder.command.Command.TheViews.{out-Command}

-- An argument has this rule, and is its command's own.
abbrev pub IsArgument : Arg → Rule → Type 0
IsArgument argument rule = (rule_of argument ≡ rule) × (argument.global ≡ false)

-- A command, unless memory was refused, has this shape, and all its arguments are its own.
abbrev pub IsCommand : Result Command AllocError → App → Type 0
IsCommand made app = IfOk made (λ command. (app_of command ≡ app) × ((out-Command command).has_globals ≡ false))

-- The program, unless memory was refused, has this shape.
abbrev pub IsProgram : Result Command AllocError → App → Type 0
IsProgram made app = IfOk made (λ program. app_of program ≡ app)
