-- The tokens of questions.
use Rattle.std.specs.Prelude.{ℕ, Bool, not, ◌&&◌, ◌||◌, List, [], ◌∷◌, Option, Some, None, if◌then◌else◌, bytes_eq, codes}
use Rattle.std.specs.List.{list_any}
use Rattle.text_tokens.specs.Cursors.{Token}
use Rattle.text_tokens.specs.Text.{tokens_by}
use Rattle.lines_layout.specs.Names.{begins_with_letter}
use Rattle.questions.specs.declared.question.Place.{Place}
use Rattle.questions.specs.declared.question.Place.TheVariants.{Crash, End, Recovery}

-- each of these characters is a token, and so is a run of others as far as it goes; a comment ends the line
unfoldable pub item_tokens : List ℕ → List Token
item_tokens line = tokens_by (codes ",[]:()") (codes "#") line

-- words that name no item
abbrev pub keywords : List Token
keywords = codes "not" ∷ codes "and" ∷ codes "or" ∷ codes "persisted" ∷ codes "coherent" ∷ codes "reg" ∷ codes "trapped" ∷ codes "let" ∷ codes "every" ∷ codes "some" ∷ []

abbrev pub is_keyword : Token → Bool
is_keyword token = list_any (bytes_eq token) keywords

-- a token that is meant as the name of an item or of a word
abbrev pub is_identifier : Token → Bool
is_identifier token = begins_with_letter token && not (is_keyword token)

-- a sign begins as a number does, and is none
abbrev pub is_sign : Token → Bool
is_sign token = bytes_eq token (codes "-") || bytes_eq token (codes "->")

-- the place that is written so
unfoldable pub place_of : Token → Option Place
place_of token =
    if bytes_eq token (codes "crash") then Some Crash
    else if bytes_eq token (codes "end") then Some End
    else if bytes_eq token (codes "recovery") then Some Recovery
    else None
