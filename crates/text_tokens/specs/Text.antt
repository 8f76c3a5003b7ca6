-- The lines of a text, and the tokens of a line.
use Rattle.std.specs.Prelude.{◌≡◌, ℕ, Bool, false, not, ◌==◌, ◌&&◌, ◌||◌, nat_eq, nat_le, if◌then◌else◌, Option, MatchOption, List, [], ◌∷◌, drop, codes}
use Rattle.std.specs.Borrow.{Bor}
use Rattle.std.specs.List.{list_all, list_any, prefix_len}

-- what ends a line
abbrev pub line_feed : ℕ
line_feed = 10

-- '#', which starts a comment up to the line's end
abbrev pub hash : ℕ
hash = 35

-- a byte of a line: anything but the line feed that ends it
abbrev pub is_line_byte : ℕ → Bool
is_line_byte b = not (b == line_feed)

-- one of these characters
abbrev pub is_one_of : List ℕ → ℕ → Bool
is_one_of chars b = list_any (nat_eq b) chars

-- space, tab and carriage return
abbrev pub is_blank : ℕ → Bool
is_blank b = is_one_of (codes " \t\r") b

-- the characters of a line that are tokens by themselves
abbrev pub is_mark : ℕ → Bool
is_mark b = is_one_of (codes ",[]:") b

-- the bytes of a run, where these characters are tokens by themselves and these end the text
abbrev pub is_run_by : List ℕ → List ℕ → ℕ → Bool
is_run_by marks ends b = not (is_blank b) && not (is_one_of marks b) && not (is_one_of ends b)

-- the other characters of a line, of which a run is a token
abbrev pub is_run_byte : ℕ → Bool
is_run_byte b = is_run_by (codes ",[]:") (codes "#") b

-- a byte that may be in a line: a blank, or a visible character
abbrev pub is_plain : ℕ → Bool
is_plain b = is_blank b || (nat_le 0x21 b && nat_le b 0x7E)

-- a line of such bytes
abbrev pub is_plain_line : List ℕ → Bool
is_plain_line line = list_all is_plain line

-- b goes onto the front of the first list
abbrev pub onto_first : ℕ → List (List ℕ) → List (List ℕ)
onto_first b [] = (b ∷ []) ∷ []
onto_first b (first ∷ others) = (b ∷ first) ∷ others

-- a line feed ends a line, and bytes after the last are a last line
unfoldable pub lines_of : List ℕ → List (List ℕ)
lines_of [] = []
lines_of (b ∷ text) = if is_line_byte b then onto_first b (lines_of text) else [] ∷ lines_of text

-- the text from its first byte on that is no blank
abbrev pub past_blanks : List ℕ → List ℕ
past_blanks text = drop (prefix_len is_blank text) text

-- a run goes on at the front of these bytes
abbrev pub goes_on_by : List ℕ → List ℕ → List ℕ → Bool
goes_on_by marks ends [] = false
goes_on_by marks ends (b ∷ _) = is_run_by marks ends b

-- a mark is a token, and so is a run of other characters as far as it goes; one of `ends` ends the text
abbrev pub tokens_by : List ℕ → List ℕ → List ℕ → List (List ℕ)
tokens_by marks ends [] = []
tokens_by marks ends (b ∷ text) =
    if is_blank b then tokens_by marks ends text
    else if is_one_of marks b then (b ∷ []) ∷ tokens_by marks ends text
    else if is_one_of ends b then []
    else if goes_on_by marks ends text then onto_first b (tokens_by marks ends text)
    else (b ∷ []) ∷ tokens_by marks ends text

-- a run of a line goes on at the front of these bytes
abbrev pub goes_on : List ℕ → Bool
goes_on line = goes_on_by (codes ",[]:") (codes "#") line

-- the tokens of a line, which a comment ends
unfoldable pub tokens_of : List ℕ → List (List ℕ)
tokens_of line = tokens_by (codes ",[]:") (codes "#") line

-- A call splits a text after the first of its parts, if it has parts.
abbrev pub SplitsFirst : (List ℕ → List (List ℕ)) → List ℕ → Option (Bor (List ℕ) × Bor (List ℕ)) → Type 0
SplitsFirst parts_of text result = MatchOption result (parts_of text ≡ []) (λ x. parts_of text ≡ x.0.now ∷ parts_of x.1.now)
