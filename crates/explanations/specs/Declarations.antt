-- What the lines of a script declare, and which line declares what an earlier one does.
use Rattle.std.specs.Prelude.{ℕ, ◌+◌, ◌*◌, Bool, false, ◌==◌, if◌then◌else◌, Option, Some, None, List, [], ◌∷◌, ◌++◌, length, bytes_eq, codes}
use Rattle.std.specs.List.{position_from}
use Rattle.std.specs.Option.{option_and_then, option_map_or}
use Rattle.line_forms.specs.Places.{before_comment}
use Rattle.text_tokens.specs.Numbers.{small_number_of}
use Rattle.text_tokens.specs.Text.{lines_of, tokens_of}
use Rattle.explanations.specs.Questions.{piece_of}

-- what a line declares that begins with this word and has this id, as a number: a stop is even, a watch is odd
abbrev pub declared_as : List ℕ → ℕ → Option ℕ
declared_as word id =
    if bytes_eq word (codes "stop") then Some (2 * id)
    else if bytes_eq word (codes "watch") then Some (2 * id + 1)
    else None

-- the same where these tokens are after the word
abbrev pub declared_by : List ℕ → List (List ℕ) → Option ℕ
declared_by word [] = None
declared_by word (token ∷ tokens) = option_and_then (declared_as word) (small_number_of token)

-- what a line declares, if it does
abbrev pub declaration_of : List ℕ → Option ℕ
declaration_of line = let first = piece_of (before_comment line) in declared_by first.0 (tokens_of first.1)

-- whether a line declares this
abbrev pub declares : ℕ → List ℕ → Bool
declares wanted line = option_map_or (λ declared. declared == wanted) (declaration_of line) false

-- the first of the lines before, from 1, that declares what this line does
abbrev pub earlier_of : List (List ℕ) → List ℕ → Option ℕ
earlier_of before line = option_and_then (λ wanted. position_from (declares wanted) 1 before) (declaration_of line)

-- the first line that declares what an earlier one does, and that earlier one, where these lines were before
abbrev pub double_from : (before lines : List (List ℕ)) → Option (ℕ × ℕ)
double_from before [] = None
double_from before (line ∷ lines) = option_map_or (λ earlier. Some (length before + 1, earlier)) (earlier_of before line) (double_from (before ++ line ∷ []) lines)

-- the first line of a script, from 1, that declares what an earlier one does, and the first line that declares it
abbrev pub double_of : List ℕ → Option (ℕ × ℕ)
double_of script = double_from [] (lines_of script)
