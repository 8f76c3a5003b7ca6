-- The grammar of scripts, line by line.
use Rattle.std.specs.Prelude.{◌≡◌, ◌≢◌, ℕ, ◌<◌, ◌==◌, Bool, true, false, not, Some, Ok, List, [], ◌∷◌, ◌++◌, length, codes}
use Rattle.std.specs.List.{list_all, list_any}
use Rattle.text_tokens.specs.Text.{lines_of, tokens_of, is_blank, is_plain_line}
use Rattle.text_tokens.specs.Numbers.{number_of, small_number_of}
use Rattle.text_tokens.specs.Cursors.{Token}
use Rattle.lines_layout.specs.Layouts.{NamedLines, word_of}
use Rattle.conditions.specs.Formulas.{Formula}
use Rattle.conditions.specs.Texts.{condition_of}
use Rattle.schedule.specs.StepTexts.{IsForm}
use Rattle.debug_scripts.specs.declared.orders.Command.{Command}
use Rattle.debug_scripts.specs.declared.orders.Command.TheVariants.{Gather, Go, Continue, Back, Show, Images, Disarm, Detach, Values}
use Rattle.debug_scripts.specs.Pieces.{is_solid, piece_of, stands_before_equals, uncommented}
use Rattle.debug_scripts.specs.Asked.{asked}
use Rattle.debug_scripts.specs.Rows.{Said, Blank, Stop, Watch, Ask, Do}
use Rattle.debug_scripts.specs.Scripts.{Script, empty_script}

-- a blank is at the front, or nothing
abbrev pub is_apart : List ℕ → Bool
is_apart [] = true
is_apart (b ∷ _) = not (is_solid b)

-- stop ID CONDITION before a comment: blanks part the three, and the condition is all that follows the id
pub record IsStopLine (line : List ℕ) (id : ℕ) (condition : List ℕ) : Type 0 where
  pub front : List ℕ
  pub gap : List ℕ
  pub digits : List ℕ
  pub parts : uncommented line ≡ front ++ codes "stop" ++ gap ++ digits ++ condition
  pub front_blank : list_all is_blank front ≡ true
  pub gap_blank : list_all is_blank gap ≡ true
  pub gap_there : 0 < length gap
  pub solid : list_all is_solid digits ≡ true
  pub number : small_number_of digits ≡ Some id
  pub apart : is_apart condition ≡ true

-- a line whose first piece is not stop; it is read by its tokens
abbrev pub IsOtherLine : List ℕ → Type 0
IsOtherLine line = (piece_of (uncommented line)).0 ≢ codes "stop"

-- NAME=V: a name without =, of this word, and behind the = a number
pub record IsGiven (names : NamedLines) (token : Token) (word value : ℕ) : Type 0 where
  pub name : List ℕ
  pub number : List ℕ
  pub parts : token ≡ name ++ codes "=" ++ number
  pub plain : list_all stands_before_equals name ≡ true
  pub named : word_of names name ≡ Some word
  pub valued : number_of number ≡ Some value

-- each token gives a word its value
abbrev pub AreGiven : NamedLines → List Token → List (ℕ × ℕ) → Type 0
AreGiven names [] given = given ≡ []
AreGiven names (token ∷ tokens) given = (word : ℕ) × (value : ℕ) × (later : List (ℕ × ℕ)) × IsGiven names token word value × AreGiven names tokens later
    × (given ≡ (word, value) ∷ later)

-- the tokens of a line that says this command, other than values
abbrev pub IsCommandForm : List Token → Command → Type 0
IsCommandForm tokens (Gather step) = IsForm tokens step
IsCommandForm tokens Go = tokens ≡ codes "go" ∷ []
IsCommandForm tokens Continue = tokens ≡ codes "continue" ∷ []
IsCommandForm tokens (Back n) = (number : Token) × (tokens ≡ codes "back" ∷ number ∷ []) × (small_number_of number ≡ Some n)
IsCommandForm tokens Show = tokens ≡ codes "show" ∷ []
IsCommandForm tokens Images = tokens ≡ codes "images" ∷ []
IsCommandForm tokens (Disarm id) = (number : Token) × (tokens ≡ codes "disarm" ∷ number ∷ []) × (small_number_of number ≡ Some id)
IsCommandForm tokens (Values asks) = ⊥
IsCommandForm tokens (Detach id) = (number : Token) × (tokens ≡ codes "detach" ∷ number ∷ []) × (small_number_of number ≡ Some id)

-- what a line of plain bytes says
abbrev pub Says : NamedLines → List ℕ → Said → Type 0
Says names line Blank = IsOtherLine line × (tokens_of line ≡ [])
Says names line (Stop id condition) = IsStopLine line id condition
Says names line (Watch id word) = IsOtherLine line × (number : Token) × (name : Token) × (tokens_of line ≡ codes "watch" ∷ number ∷ name ∷ [])
    × (small_number_of number ≡ Some id) × (word_of names name ≡ Some word)
Says names line (Ask word given) = IsOtherLine line × (name : Token) × (tokens_of line ≡ codes "values" ∷ name ∷ given) × (word_of names name ≡ Some word)
Says names line (Do command) = IsOtherLine line × IsCommandForm (tokens_of line) command

-- a line of a script
abbrev pub IsRow : NamedLines → List ℕ → Said → Type 0
IsRow names line row = (is_plain_line line ≡ true) × Says names line row

-- what a line adds: stops and watches are before all commands, each id once among the stops and once among the watches; what is given to values is read
abbrev pub Adds : NamedLines → Script → Said → Script → Type 0
Adds names s Blank t = t ≡ s
Adds names s (Stop id text) t = (s.commands ≡ []) × (cond : Formula) × (condition_of names text ≡ Ok cond) × (list_any (λ x. x.id == id) s.stops ≡ false)
    × (t ≡ record s { stops = s.stops ++ (record { id = id; cond = cond }) ∷ [] })
Adds names s (Watch id word) t = (s.commands ≡ []) × (list_any (λ x. x.id == id) s.watches ≡ false)
    × (t ≡ record s { watches = s.watches ++ (record { id = id; word = word }) ∷ [] })
Adds names s (Ask word tokens) t = (given : List (ℕ × ℕ)) × AreGiven names tokens given × (t ≡ record s { commands = s.commands ++ Values (asked word given) ∷ [] })
Adds names s (Do command) t = t ≡ record s { commands = s.commands ++ command ∷ [] }

-- lines, one after another, between the script before them and the script with them
abbrev pub AddAll : NamedLines → Script → List (List ℕ) → Script → Type 0
AddAll names s [] t = t ≡ s
AddAll names s (line ∷ lines) t = (row : Said) × (u : Script) × IsRow names line row × Adds names s row u × AddAll names u lines t

-- the lines of a text are those of this script
abbrev pub IsScript : NamedLines → List ℕ → Script → Type 0
IsScript names text script = AddAll names empty_script (lines_of text) script
