-- Where a fault of a sheet's items is: how many tokens of a line are read before one that has a fault.
use Rattle.std.specs.Prelude.{ℕ, ◌+◌, nat_eq, if◌then◌else◌, Result, Ok, Err, List, [], ◌∷◌}
use Rattle.outcomes.specs.Outcomes.{◌>>=◌}
use Rattle.text_tokens.specs.Cursors.{Token}
use Rattle.text_tokens.specs.Text.{lines_of}
use Rattle.litmus_text.specs.declared.fault.TextFault.{TextFault}
use Rattle.sheets.specs.Reading.{sheet_read_of}
use Rattle.questions.specs.Tokens.{item_tokens}
use Rattle.questions.specs.Items.{Items, first_after, line_after, no_items, token_after}
use Rattle.questions.specs.Reading.{scope_of}

-- a number, or none of a fault
abbrev pub or_none : Result ℕ TextFault → ℕ
or_none (Ok number) = number
or_none (Err fault) = 0

-- how many tokens behind the first of line n are read before one that has a fault
unfoldable pub others_read : ℕ → Items → List Token → ℕ
others_read n items [] = 0
others_read n items (token ∷ tokens) = or_none (do
  next ← token_after n items token
  Ok (1 + others_read n next tokens))

-- how many tokens of line n are
unfoldable pub tokens_read : ℕ → Items → List Token → ℕ
tokens_read n items [] = 0
tokens_read n items (first ∷ others) = or_none (do
  next ← first_after n items first
  Ok (1 + others_read n next others))

-- the same of line m, of lines of which the first has the number n
unfoldable pub read_among : ℕ → ℕ → Items → List (List ℕ) → Result ℕ TextFault
read_among m n items [] = Ok 0
read_among m n items (line ∷ lines) =
    if nat_eq n m then Ok (tokens_read n items (item_tokens line))
    else do
      next ← line_after n items line
      read_among m (n + 1) next lines

-- how many tokens of line m of a sheet are read; or the fault of its program, or of a line of its items before this one
abbrev pub read_on : ℕ → List ℕ → Result ℕ TextFault
read_on m text = do
  sheet ← sheet_read_of text
  read_among m sheet.items.first (no_items (scope_of sheet)) (lines_of sheet.items.rows)
