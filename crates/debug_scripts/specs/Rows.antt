-- What the lines of a script say, each by itself.
use Rattle.std.specs.Prelude.{ℕ, not, if◌then◌else◌, Result, Ok, List, [], ◌∷◌, ◌++◌, bytes_eq, codes}
use Rattle.outcomes.specs.Outcomes.{◌>>=◌, refuse, required, refused_as}
use Rattle.text_tokens.specs.Text.{tokens_of, is_plain_line}
use Rattle.text_tokens.specs.Numbers.{number_of, small_number_of}
use Rattle.text_tokens.specs.Cursors.{Token, token_at, end_at}
use Rattle.lines_layout.specs.Layouts.{NamedLines, word_of}
use Rattle.schedule.specs.StepTexts.{step_at}
use Rattle.debug_scripts.specs.declared.orders.Command.{Command}
use Rattle.debug_scripts.specs.declared.orders.Command.TheVariants.{Gather, Go, Continue, Back, Show, Images, Disarm, Detach}
use Rattle.debug_scripts.specs.declared.row.BadRow.{BadRow}
use Rattle.debug_scripts.specs.Pieces.{name_and_value, piece_of, uncommented}

-- the one fault of a line by itself
abbrev pub bad_row : BadRow
bad_row = record {}

-- what a line says
pub data Said : Type 0 where
  Blank : Said
  -- a stop, and the text of its condition
  Stop : (id : ℕ) (condition : List ℕ) → Said
  -- a watch of a word
  Watch : (id word : ℕ) → Said
  -- the values of a word are asked; and the texts of what is given
  Ask : (word : ℕ) (given : List Token) → Said
  Do : (command : Command) → Said

-- NUMBER
unfoldable pub number_at : List Token → Result (ℕ × List Token) BadRow
number_at tokens = do
  token ← token_at bad_row tokens
  n ← required bad_row (small_number_of token.0)
  Ok (n, token.1)

-- stop ID CONDITION: what comes after stop
unfoldable pub stop_on : List ℕ → Result Said BadRow
stop_on behind = do
  id ← required bad_row (small_number_of (piece_of behind).0)
  Ok (Stop id (piece_of behind).1)

-- watch ID NAME: the tokens after watch
unfoldable pub watch_on : NamedLines → List Token → Result Said BadRow
watch_on names tokens = do
  id ← number_at tokens
  name ← token_at bad_row id.1
  word ← required bad_row (word_of names name.0)
  end ← end_at bad_row name.1
  Ok (Watch id.0 word)

-- values NAME [NAME=V ..]: the tokens after values. What is given is read with the script.
unfoldable pub values_on : NamedLines → List Token → Result Said BadRow
values_on names tokens = do
  name ← token_at bad_row tokens
  word ← required bad_row (word_of names name.0)
  Ok (Ask word name.1)

-- NAME=V: a word and a number
unfoldable pub given_on : NamedLines → Token → Result (ℕ × ℕ) BadRow
given_on names token = do
  word ← required bad_row (word_of names (name_and_value token).0)
  value ← required bad_row (number_of (name_and_value token).1)
  Ok (word, value)

-- what is given, with what more tokens give
unfoldable pub given_from : NamedLines → List (ℕ × ℕ) → List Token → Result (List (ℕ × ℕ)) BadRow
given_from names given [] = Ok given
given_from names given (token ∷ tokens) = do
  next ← given_on names token
  given_from names (given ++ next ∷ []) tokens

-- the command whose first token is this one
unfoldable pub command_at : Token → List Token → Result (Command × List Token) BadRow
command_at first tokens =
    if bytes_eq first (codes "go") then Ok (Go, tokens)
    else if bytes_eq first (codes "continue") then Ok (Continue, tokens)
    else if bytes_eq first (codes "back") then (number_at tokens >>= λ n. Ok (Back n.0, n.1))
    else if bytes_eq first (codes "show") then Ok (Show, tokens)
    else if bytes_eq first (codes "images") then Ok (Images, tokens)
    else if bytes_eq first (codes "disarm") then (number_at tokens >>= λ id. Ok (Disarm id.0, id.1))
    else if bytes_eq first (codes "detach") then (number_at tokens >>= λ id. Ok (Detach id.0, id.1))
    else (refused_as (λ bad. bad_row) (step_at first tokens) >>= λ step. Ok (Gather step.0, step.1))

-- the command that all tokens of a line say
unfoldable pub command_on : Token → List Token → Result Said BadRow
command_on first tokens = do
  command ← command_at first tokens
  end ← end_at bad_row command.1
  Ok (Do command.0)

-- the tokens of a line that declares no stop
unfoldable pub tokens_row : NamedLines → List Token → Result Said BadRow
tokens_row names [] = Ok Blank
tokens_row names (first ∷ tokens) =
    if bytes_eq first (codes "watch") then watch_on names tokens
    else if bytes_eq first (codes "values") then values_on names tokens
    else command_on first tokens

-- a line whose first piece is stop declares one; any other is read by its tokens
abbrev pub row_in : NamedLines → List ℕ × List ℕ → List Token → Result Said BadRow
row_in names piece tokens = if bytes_eq piece.0 (codes "stop") then stop_on piece.1 else tokens_row names tokens

-- what a line says
unfoldable pub row_of : NamedLines → List ℕ → Result Said BadRow
row_of names line = do
  plain ← refuse bad_row (not (is_plain_line line))
  row_in names (piece_of (uncommented line)) (tokens_of line)
