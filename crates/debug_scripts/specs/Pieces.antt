-- The pieces of a line that declares a stop. Blanks alone part them, since a condition may have any other byte. And the two of NAME=V.
use Rattle.std.specs.Prelude.{ℕ, Bool, not, ◌==◌, List, take, drop}
use Rattle.std.specs.List.{prefix_len}
use Rattle.text_tokens.specs.Text.{hash, is_blank, past_blanks}

-- a byte that begins no comment
abbrev pub stands_before_comment : ℕ → Bool
stands_before_comment b = not (b == hash)

-- a byte of a piece
abbrev pub is_solid : ℕ → Bool
is_solid b = not (is_blank b)

-- the line before its comment
unfoldable pub uncommented : List ℕ → List ℕ
uncommented line = take (prefix_len stands_before_comment line) line

-- the bytes before the first blank, and the others
abbrev pub parted : List ℕ → List ℕ × List ℕ
parted text = (take (prefix_len is_solid text) text, drop (prefix_len is_solid text) text)

-- the first piece of a text, and what comes after it
unfoldable pub piece_of : List ℕ → List ℕ × List ℕ
piece_of text = parted (past_blanks text)

-- '='
abbrev pub equals : ℕ
equals = 61

-- a byte that does not end a name
abbrev pub stands_before_equals : ℕ → Bool
stands_before_equals b = not (b == equals)

-- NAME=V: the bytes before the first =, and those behind it
unfoldable pub name_and_value : List ℕ → List ℕ × List ℕ
name_and_value token = (take (prefix_len stands_before_equals token) token, drop 1 (drop (prefix_len stands_before_equals token) token))
