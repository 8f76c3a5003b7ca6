-- What tokens of a sheet say: constants, addresses of words, and the numbers of copies.
use Rattle.std.specs.Prelude.{ℕ, Bool, false, not, ◌||◌, ◌&&◌, ◌==◌, nat_le, nat_lt, if◌then◌else◌, Option, Some, None, is_some, option_map, unwrap_or, Result, Ok, List, [], ◌∷◌, length, bytes_eq, codes, decimal}
use Rattle.std.specs.List.{flat_map, list_all}
use Rattle.std.specs.Map.{lookup}
use Rattle.std.specs.Char.{is_ascii_digit, is_ascii_uppercase}
use Rattle.std.specs.Option.{option_map_or}
use Rattle.outcomes.specs.Outcomes.{◌>>=◌, refuse, required}
use Rattle.text_tokens.specs.Cursors.{Token, token_at, end_at}
use Rattle.text_tokens.specs.Numbers.{begins_number, number_of}
use Rattle.lines_layout.specs.Lines.{address_of}
use Rattle.lines_layout.specs.Layouts.{NamedLines, word_of}
use Rattle.litmus_text.specs.declared.fault.LineFault.{LineFault}
use Rattle.litmus_text.specs.declared.fault.LineFault.TheVariants.{BadWord, UnknownName, BadNumber, BadName}

-- ---- constants

-- how many bytes the name of a constant may have
abbrev pub constant_length : ℕ
constant_length = 16

-- A-Z, 0-9 and _
abbrev pub is_constant_byte : ℕ → Bool
is_constant_byte b = is_ascii_uppercase b || is_ascii_digit b || b == 95

-- a token that is meant as a constant: it begins with an upper case letter
abbrev pub begins_constant : Token → Bool
begins_constant [] = false
begins_constant (b ∷ token) = is_ascii_uppercase b

-- an upper case letter, then at most 15 of A-Z, 0-9 and _; so no constant is a word, a register, a label or an instruction
abbrev pub is_constant : Token → Bool
is_constant token = begins_constant token && nat_le (length token) constant_length && list_all is_constant_byte token

-- constants with their values, in the order of their lines
abbrev pub Constants : Type 0
Constants = List (Token × ℕ)

-- the value of a constant, if it is there
abbrev pub value_of : Constants → Token → Option ℕ
value_of constants token = lookup (bytes_eq token) constants

-- what abbreviations stand for: the words of the lines so far, and the constants
pub record Names : Type 0 where
  pub layout : NamedLines
  pub constants : Constants

-- ---- tokens

-- & before the name of a word is the word's address
abbrev pub begins_address : Token → Bool
begins_address [] = false
begins_address (b ∷ token) = b == 38

abbrev pub behind_first : Token → Token
behind_first [] = []
behind_first (b ∷ token) = token

-- the number that an abbreviation stands for; None of a token that is none
unfoldable pub meant : Names → Token → Result (Option ℕ) LineFault
meant names token =
    if begins_address token then (required UnknownName (word_of names.layout (behind_first token)) >>= λ word. Ok (Some (address_of word)))
    else if begins_constant token then (required UnknownName (value_of names.constants token) >>= λ n. Ok (Some n))
    else Ok None

-- an abbreviation is its number in decimal, and another token itself
unfoldable pub said : Names → Token → Result Token LineFault
said names token = do
  number ← meant names token
  Ok (option_map_or decimal number token)

-- NUMBER as litmus texts have it
unfoldable pub plain_number : Token → Result ℕ LineFault
plain_number token = do
  number ← refuse BadWord (not (begins_number token))
  required BadNumber (number_of token)

-- the number that a token is, or stands for
abbrev pub number_or : Option ℕ → Token → Result ℕ LineFault
number_or None token = plain_number token
number_or (Some n) token = Ok n

-- NUMBER, CONSTANT or &NAME
unfoldable pub number_said : Names → Token → Result ℕ LineFault
number_said names token = do
  number ← meant names token
  number_or number token

-- the same, from 1 to the most
unfoldable pub count_said : Names → ℕ → Token → Result ℕ LineFault
count_said names most token = do
  n ← number_said names token
  fits ← refuse BadNumber (n == 0 || nat_lt most n)
  Ok n

-- * N, if it is there, and the tokens behind it
unfoldable pub count_at : Names → ℕ → List Token → Result (Option ℕ × List Token) LineFault
count_at names most [] = Ok (None, [])
count_at names most (star ∷ tokens) =
    if not (bytes_eq star (codes "*")) then Ok (None, star ∷ tokens)
    else (token_at BadWord tokens >>= λ token. count_said names most token.0 >>= λ n. Ok (Some n, token.1))

-- the tokens of `const`: the constant, which is none so far, and its value
unfoldable pub constant_at : Names → List Token → Result (Token × ℕ) LineFault
constant_at names tokens = do
  name ← token_at BadWord tokens
  good ← refuse BadName (not (is_constant name.0) || is_some (value_of names.constants name.0))
  token ← token_at BadWord name.1
  n ← number_said names token.0
  end ← end_at BadWord token.1
  Ok (name.0, n)

-- ---- copies

-- '$', which is the number of the copy
abbrev pub dollar : ℕ
dollar = 36

abbrev pub byte_in_copy : ℕ → ℕ → List ℕ
byte_in_copy i b = if b == dollar then decimal i else b ∷ []

-- the token of copy i; of no copy the token itself
abbrev pub in_copy : Option ℕ → Token → Token
in_copy None token = token
in_copy (Some i) token = flat_map (byte_in_copy i) token

-- how many copies `* N` says; one without it
abbrev pub copies : Option ℕ → ℕ
copies count = unwrap_or count 1

-- the number that $ is in copy i, if there are copies
abbrev pub numbered_copy : Option ℕ → ℕ → Option ℕ
numbered_copy count i = option_map (λ _. i) count
