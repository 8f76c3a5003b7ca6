-- The litmus text that a sheet says: its bytes, and the lines of the sheet that say its lines.
use Rattle.std.specs.Prelude.{ℕ, Option, Result, Ok, List, [], ◌∷◌, ◌++◌, map, codes}
use Rattle.outcomes.specs.Outcomes.{◌>>=◌}
use Rattle.text_tokens.specs.Cursors.{Token}
use Rattle.text_tokens.specs.Text.{lines_of}
use Rattle.litmus_text.specs.declared.fault.LineFault.{LineFault}
use Rattle.sheets.specs.Abbreviations.{Names, in_copy, said}

-- A litmus text so far, and of each of its lines the line of the sheet that says it.
pub record Said : Type 0 where
  pub text : List ℕ
  pub lines : List ℕ

-- lines of a litmus text, each with its line feed, that line n of the sheet says
abbrev pub says : ℕ → List ℕ → Said → Said
says n piece s = record { text = s.text ++ piece; lines = s.lines ++ map (λ _. n) (lines_of piece) }

-- ---- rows, token by token with a blank behind each

abbrev pub with_blank : Token → List ℕ
with_blank token = token ++ codes " "

-- tokens as they stand, at the end of a text
unfoldable pub plain_from : List ℕ → List Token → List ℕ
plain_from text [] = text
plain_from text (token ∷ tokens) = plain_from (text ++ with_blank token) tokens

-- a row of these tokens
abbrev pub plain_row : Token → List Token → List ℕ
plain_row first tokens = plain_from (with_blank first) tokens ++ codes "\n"

-- what a token says, at the end of a text
abbrev pub said_behind : Names → List ℕ → Token → Result (List ℕ) LineFault
said_behind names text token = do
  one ← said names token
  Ok (text ++ one)

-- what a token of a copy says, with a blank behind it; and what tokens say
abbrev pub token_said : Names → Option ℕ → List ℕ → Token → Result (List ℕ) LineFault
token_said names copy text token = do
  more ← said_behind names text (in_copy copy token)
  Ok (more ++ codes " ")

unfoldable pub said_from : Names → Option ℕ → List ℕ → List Token → Result (List ℕ) LineFault
said_from names copy text [] = Ok text
said_from names copy text (token ∷ tokens) = do
  more ← token_said names copy text token
  said_from names copy more tokens

-- a row: its first token stands as it is, and the others may be abbreviations
unfoldable pub said_row : Names → Option ℕ → Token → List Token → Result (List ℕ) LineFault
said_row names copy first tokens = do
  text ← said_from names copy (with_blank first) tokens
  Ok (text ++ codes "\n")
