-- The words of `line` and the values of `init`.
use Rattle.std.specs.Prelude.{ℕ, ◌+◌, if◌then◌else◌, Option, None, Result, Ok, Err, List, [], ◌∷◌, ◌++◌, nat_lt, bytes_eq, codes, decimal, drop}
use Rattle.std.specs.List.{range_with_len}
use Rattle.outcomes.specs.Outcomes.{◌>>=◌, required}
use Rattle.text_tokens.specs.Cursors.{Token}
use Rattle.text_tokens.specs.Text.{tokens_of}
use Rattle.lines_layout.specs.Lines.{line_words, max_words}
use Rattle.lines_layout.specs.Layouts.{NamedLines, add_line_of, name_of}
use Rattle.lines_layout.specs.declared.fault.LayoutFault.{LayoutFault}
use Rattle.litmus_text.specs.declared.fault.LineFault.{LineFault}
use Rattle.litmus_text.specs.declared.fault.LineFault.TheVariants.{BadWord}
use Rattle.sheets.specs.declared.words.Place.{Place}
use Rattle.sheets.specs.declared.words.Place.TheVariants.{Free, Behind, Open, Closed}
use Rattle.sheets.specs.Abbreviations.{Names, copies, count_said, in_copy, meant, numbered_copy}
use Rattle.sheets.specs.Texts.{said_behind, with_blank}

-- ---- the words of a line

-- The words that were read so far, at the end of a text; the name of the last of them, which may be that of several; and where the reading is.
pub record Words : Type 0 where
  pub text : List ℕ
  pub name : Token
  pub place : Place

-- the names with these numbers, at the end of a text
unfoldable pub counted_from : Token → List ℕ → List ℕ → List ℕ
counted_from name text [] = text
counted_from name text (i ∷ numbers) = counted_from name (text ++ with_blank (name ++ decimal i)) numbers

-- NAME0, NAME1 and on: so many
abbrev pub counted_names : Token → List ℕ → ℕ → List ℕ
counted_names name text count = counted_from name text (range_with_len 0 count)

-- a name, which may be followed by [; an abbreviation is none, and litmus texts refuse it
unfoldable pub name_begins : Names → Words → Token → Result Words LineFault
name_begins names w token = do
  number ← meant names token
  Ok (record w { name = token; place = Behind })

-- one more token: NAME, or [ K ] behind it
unfoldable pub word_after : Place → Names → Words → Token → Result Words LineFault
word_after Free names w token = name_begins names w token
word_after Behind names w token =
    if bytes_eq token (codes "[") then Ok (record w { place = Open })
    else name_begins names (record w { text = w.text ++ with_blank w.name }) token
word_after Open names w token = do
  count ← count_said names line_words token
  Ok (record w { text = counted_names w.name w.text count; place = Closed })
word_after Closed names w token = if bytes_eq token (codes "]") then Ok (record w { place = Free }) else Err BadWord

-- the tokens of a copy of a line
unfoldable pub words_from : Names → Option ℕ → Words → List Token → Result Words LineFault
words_from names copy w [] = Ok w
words_from names copy w (token ∷ tokens) = do
  next ← word_after w.place names w (in_copy copy token)
  words_from names copy next tokens

-- the text, where the tokens may end here
unfoldable pub words_end : Place → Words → Result (List ℕ) LineFault
words_end Free w = Ok (w.text ++ codes "\n")
words_end Behind w = Ok (w.text ++ with_blank w.name ++ codes "\n")
words_end Open w = Err BadWord
words_end Closed w = Err BadWord

-- a copy of a line, at the end of a text
unfoldable pub line_said : Names → List Token → List ℕ → Option ℕ → Result (List ℕ) LineFault
line_said names tokens text copy = do
  words ← words_from names copy (record { text = text ++ codes "line "; name = []; place = Free }) tokens
  words_end words.place words

-- the copies of these numbers
unfoldable pub lines_said : Names → Option ℕ → List Token → List ℕ → List ℕ → Result (List ℕ) LineFault
lines_said names count tokens text [] = Ok text
lines_said names count tokens text (i ∷ numbers) = do
  more ← line_said names tokens text (numbered_copy count i)
  lines_said names count tokens more numbers

-- all of them
abbrev pub all_lines_said : Names → Option ℕ → List Token → Result (List ℕ) LineFault
all_lines_said names count tokens = lines_said names count tokens [] (range_with_len 0 (copies count))

-- ---- the names that lines give

-- one more line of names; a line that is refused gives none, and the text that is said has its fault
abbrev pub layout_or : NamedLines → Result NamedLines LayoutFault → NamedLines
layout_or old (Ok layout) = layout
layout_or old (Err fault) = old

abbrev pub line_given : NamedLines → List ℕ → NamedLines
line_given layout line = layout_or layout (add_line_of layout (drop 1 (tokens_of line)))

unfoldable pub lines_given : NamedLines → List (List ℕ) → NamedLines
lines_given layout [] = layout
lines_given layout (line ∷ lines) = lines_given (line_given layout line) lines

-- ---- the values of words

-- the name of a word that is left, by its number
abbrev pub name_left : NamedLines → ℕ → Option Token
name_left layout word = if nat_lt word max_words then name_of layout word else None

-- the values of a word and of those after it, by number: a row each, at the end of a text
unfoldable pub value_said : Names → List ℕ → ℕ → Token → Result (List ℕ) LineFault
value_said names text word token = do
  name ← required BadWord (name_left names.layout word)
  more ← said_behind names (text ++ codes "init " ++ with_blank name) token
  Ok (more ++ codes "\n")

unfoldable pub values_from : Names → List ℕ → ℕ → List Token → Result (List ℕ) LineFault
values_from names text word [] = Ok text
values_from names text word (token ∷ tokens) = do
  more ← value_said names text word token
  values_from names more (word + 1) tokens
