-- The values of an image, as a text on the command line.
use Rattle.std.specs.Prelude.{ℕ, Bool, not, ◌==◌, if◌then◌else◌, Option, None, Result, Ok, List, [], ◌∷◌, length, map, sum}
use Rattle.std.specs.Char.{is_ascii_digit}
use Rattle.std.specs.List.{list_all, list_any}
use Rattle.outcomes.specs.Outcomes.{◌>>=◌, refuse, required}
use Rattle.text_tokens.specs.Cursors.{Token}
use Rattle.text_tokens.specs.Numbers.{number_of}
use Rattle.text_tokens.specs.Text.{hash, tokens_of}
use Rattle.lines_layout.specs.Layouts.{NamedLines}
use Rattle.commands.specs.declared.fault.Refused.{Refused}
use Rattle.commands.specs.declared.fault.Refused.TheVariants.{Usage}
use Rattle.commands.specs.declared.fault.Stage.TheVariants as stages
use Rattle.commands.specs.Works.{Work, work}

-- how many words these lines have
abbrev pub word_count : NamedLines → ℕ
word_count names = sum (map length names)

-- the value that a token spells: decimal digits and nothing else
abbrev pub value_of : Token → Option ℕ
value_of token = if list_all is_ascii_digit token then number_of token else None

-- the values that tokens spell, one each
abbrev pub values_of : List Token → Result (List ℕ) Refused
values_of [] = Ok []
values_of (token ∷ tokens) = do
  value ← required Usage (value_of token)
  others ← values_of tokens
  Ok (value ∷ others)

-- whether a text has a comment
abbrev pub has_comment : List ℕ → Bool
has_comment text = list_any (λ byte. byte == hash) text

-- an image as a text: a value for each word, in order, and nothing else
abbrev pub values_in : NamedLines → List ℕ → Result (List ℕ) Refused
values_in names text = do
  plain ← refuse Usage (has_comment text)
  values ← values_of (tokens_of text)
  whole ← refuse Usage (not (length values == word_count names))
  Ok values

-- out of memory for them is that of a condition
abbrev pub values_work : NamedLines → List ℕ → Work (List ℕ)
values_work names text = work stages.Conditions (values_in names text)
