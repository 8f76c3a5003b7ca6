-- A condition of a program that stands apart from it, as an option has one: of a sheet it may name all that its items may name.
use Rattle.std.specs.Prelude.{ℕ, ◌+◌, true, nat_le, Option, Some, None, Result, Ok, Err, List, [], ◌∷◌}
use Rattle.outcomes.specs.Outcomes.{◌>>=◌, refuse, refused_as}
use Rattle.text_tokens.specs.Cursors.{Token}
use Rattle.lines_layout.specs.Layouts.{NamedLines}
use Rattle.litmus_text.specs.declared.fault.LineFault.{LineFault}
use Rattle.litmus_text.specs.declared.fault.LineFault.TheVariants as lines
use Rattle.conditions.specs.declared.fault.TokenFault.{TokenFault}
use Rattle.conditions.specs.declared.fault.TokenFault.TheVariants.{BadCond, UnknownName}
use Rattle.conditions.specs.declared.fault.CondFault.{CondFault}
use Rattle.conditions.specs.declared.fault.CondFault.TheVariants.{At}
use Rattle.conditions.specs.Formulas.{Formula}
use Rattle.conditions.specs.Statements.{stated}
use Rattle.conditions.specs.Texts.{condition_of}
use Rattle.questions.specs.Limits.{max_tokens}
use Rattle.questions.specs.Tokens.{item_tokens}
use Rattle.questions.specs.Scopes.{Scope}
use Rattle.questions.specs.Bodies.{Body, at_start, body_after, condition_at_end}
use Rattle.questions.specs.Questions.{Questioned}

-- what is wrong with a token: a name that is not there, or else the token cannot be where it is
abbrev pub token_fault : LineFault → TokenFault
token_fault lines.UnknownName = UnknownName
token_fault _ = BadCond

-- a fault of the token with the number n
abbrev pub told_at : ℕ → LineFault → CondFault
told_at n kind = At (token_fault kind) n

-- the condition that was read, where the text ends with n tokens
unfoldable pub statement_at_end : ℕ → Body → Result Formula CondFault
statement_at_end n b = do
  said ← refused_as (told_at n) (condition_at_end b)
  Ok said.1

-- what tokens say after what was read, where the first of them has the number n
unfoldable pub statement_from : Scope → ℕ → Body → List Token → Result Formula CondFault
statement_from scope n b [] = statement_at_end n b
statement_from scope n b (token ∷ tokens) = do
  few ← refuse (At BadCond n) (nat_le max_tokens n)
  next ← refused_as (told_at n) (body_after scope b token)
  statement_from scope (n + 1) next tokens

-- the condition that a text says by the items of a sheet, as one of an item is written; tokens are counted from 0
abbrev pub statement_of : Scope → List ℕ → Result Formula CondFault
statement_of scope text = statement_from scope 0 at_start (item_tokens text)

-- that this condition is true: where a test of it is of what is not there, it may be neither true nor false
unfoldable pub statement_asked : Scope → List ℕ → Result Formula CondFault
statement_asked scope text = do
  condition ← statement_of scope text
  Ok (stated true condition)

-- what a text asks by what it may name, where that is a sheet's, or else by the words of a layout
abbrev pub asked_by : Option Scope → NamedLines → List ℕ → Result Formula CondFault
asked_by None layout text = condition_of layout text
asked_by (Some scope) layout text = statement_asked scope text

-- what a text asks of a program
abbrev pub asked_of : Questioned → List ℕ → Result Formula CondFault
asked_of program text = asked_by program.scope program.lined.object.layout text
