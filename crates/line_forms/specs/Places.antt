-- The places of tokens in a text.
use Rattle.std.specs.Prelude.{◌≡◌, ℕ, ◌<◌, ◌≤◌, List, [], ◌∷◌, Option, length, take, drop, slice_get, slice_range, codes, ◌-◌, Bool, true, not, ◌||◌, ◌==◌}
use Rattle.std.specs.List.{list_all, prefix_len}
use Rattle.text_tokens.specs.Text.{hash, is_blank, is_one_of, lines_of, tokens_by}
use Rattle.line_forms.specs.declared.places.Place.{Place}

-- the line of this number, from 1, if the text has it
abbrev pub line_at : List ℕ → ℕ → Option (List ℕ)
line_at text number = slice_get (lines_of text) (number - 1)

-- the lines above it
abbrev pub lines_above : List ℕ → ℕ → List (List ℕ)
lines_above text number = take (number - 1) (lines_of text)

-- a place of the text
abbrev pub IsWithin : List ℕ → Place → Type 0
IsWithin text place = (place.from ≤ place.to) × (place.to ≤ length text)

-- a byte behind which a text goes on: each but those that end it, as the first of a comment
abbrev pub is_no_end : (marks ends : List ℕ) → ℕ → Bool
is_no_end marks ends b = is_blank b || is_one_of marks b || not (is_one_of ends b)

-- the first of these tokens, which are the last of the text's, is at this place, and the others are behind it; the text goes on up to its last byte
pub record IsFirstOf (marks ends text : List ℕ) (tokens : List (List ℕ)) (place : Place) : Type 0 where
  pub token : tokens ≡ slice_range text place.from place.to ∷ tokens_by marks ends (drop place.to text)
  pub goes_on : list_all (is_no_end marks ends) (take place.to text) ≡ true

-- the place is empty, and no token is after it
abbrev pub IsEnd : (marks ends text : List ℕ) → Place → Type 0
IsEnd marks ends text place = (place.from ≡ place.to) × (tokens_by marks ends (drop place.to text) ≡ [])

-- the place begins where the first of these tokens ends
pub record IsBehind (marks ends text : List ℕ) (tokens : List (List ℕ)) (place : Place) : Type 0 where
  pub before : Place
  pub token : IsFirstOf marks ends text tokens before
  pub start : place.from ≡ before.to

-- The place of the token of this index. Where there are not so many it is empty, and no token is behind it. Where it is the first that is missing, the place is right behind the last token, or at the front if there is none; where another is missing before it, at the end of the text.
pub record IsPlaceOf (marks ends text : List ℕ) (index : ℕ) (place : Place) : Type 0 where
  pub token : index < length (tokens_by marks ends text) → IsFirstOf marks ends text (drop index (tokens_by marks ends text)) place
  pub end : length (tokens_by marks ends text) ≤ index → IsEnd marks ends text place
  pub missing : 0 < index → length (tokens_by marks ends text) ≡ index → IsBehind marks ends text (drop (index - 1) (tokens_by marks ends text)) place
  pub none : index ≡ 0 → length (tokens_by marks ends text) ≡ 0 → place.from ≡ 0
  pub past : length (tokens_by marks ends text) < index → place.from ≡ length text

-- a byte that begins no comment
abbrev pub is_before_comment : ℕ → Bool
is_before_comment b = not (b == hash)

-- the line before its comment
abbrev pub before_comment : List ℕ → List ℕ
before_comment line = take (prefix_len is_before_comment line) line

-- On a line stop ID CONDITION, the token of this index of the condition, which is all that is behind the second piece and before the comment.
pub record IsConditionPlace (line : List ℕ) (index : ℕ) (place : Place) : Type 0 where
  pub id : Place
  pub second : IsPlaceOf [] (codes "#") (before_comment line) 1 id
  pub behind : id.to ≤ place.from
  pub token : IsPlaceOf (codes "()") [] (drop id.to (before_comment line)) index record { from = place.from - id.to; to = place.to - id.to }
