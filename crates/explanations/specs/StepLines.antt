-- Where the steps of a list are in their text.
use Rattle.std.specs.Prelude.{ℕ, zero, suc, ◌+◌, Option, Some, None, List, [], ◌∷◌}
use Rattle.text_tokens.specs.Text.{lines_of, tokens_of}

-- the number of the line that says step i, where the next line has the number n and these tokens; a line without tokens says none
abbrev pub step_line_at : ℕ → List (List ℕ) → ℕ → (ℕ → Option ℕ) → Option ℕ
step_line_at n [] i later = later i
step_line_at n (token ∷ tokens) zero later = Some n
step_line_at n (token ∷ tokens) (suc i) later = later i

-- the number of the line that says step i, among lines of which the first has the number n
abbrev pub step_line_from : ℕ → List (List ℕ) → ℕ → Option ℕ
step_line_from n [] i = None
step_line_from n (line ∷ lines) i = step_line_at n (tokens_of line) i (step_line_from (n + 1) lines)

-- the line of a text that says step i, from 0; lines are counted from 1
abbrev pub step_line_of : List ℕ → ℕ → Option ℕ
step_line_of text i = step_line_from 1 (lines_of text) i
