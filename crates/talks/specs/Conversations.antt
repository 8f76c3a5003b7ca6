-- Whole conversations, with any partner.
use Rattle.std.specs.Prelude.{◌≡◌, ℕ, ◌+◌, ◌&&◌, ◌==◌, List, [], ◌∷◌, ◌++◌, length, take, Result, Ok, Err, Bool, true, false, not}
use Rattle.commands.specs.Devices.{max_input}
use Rattle.talks.specs.declared.fault.TalkFault.{TalkFault}
use Rattle.talks.specs.declared.fault.TalkFault.TheVariants as faults
use Rattle.talks.specs.Events.{Event, Ended, ReadFailed, WriteFailed, heard, told}
use Rattle.talks.specs.Hearing.{IsOneLine, line_end, line_size}

-- Who answers. What it shows before a line; what may be found for a line in a place; the answer to the line, and the place after it, by
-- what was found; and which line is the last.
pub record Partner (P F : Type 0) : Type 1 where
  pub prompt : List ℕ
  pub MayFind : P → List ℕ → F → Type 0
  pub reply : P → List ℕ → F → List ℕ
  pub next : P → List ℕ → F → P
  pub is_last : List ℕ → Bool

-- a line, and what was found for it
pub record Exchange (F : Type 0) : Type 0 where
  pub line : List ℕ
  pub found : F

-- how many bytes may be heard: as many as an input may have
abbrev pub max_heard : ℕ
max_heard = max_input

-- how many bytes these lines are
abbrev pub size : {F : Type 0} → List (Exchange F) → ℕ
size [] = 0
size (x ∷ lines) = line_size true x.line + size lines

-- nothing was heard before the end
abbrev pub is_nothing : Bool → List ℕ → Bool
is_nothing is_fed line = not is_fed && (length line == 0)

module _ {P F : Type 0} (partner : Partner P F) where
  -- the prompt is told, and a line is heard, up to its line feed or to the end
  abbrev pub asked : Bool → List ℕ → List Event
  asked is_fed line = told partner.prompt ++ (heard line ++ line_end is_fed)

  -- the same, and it is answered
  abbrev pub exchange : P → Bool → List ℕ → F → List Event
  exchange p is_fed line found = asked is_fed line ++ told (partner.reply p line found)

  -- lines are answered, one after another
  abbrev pub exchanges : P → List (Exchange F) → List Event
  exchanges p [] = []
  exchanges p (x ∷ lines) = exchange p true x.line x.found ++ exchanges (partner.next p x.line x.found) lines

  -- the place after lines
  abbrev pub place_after : P → List (Exchange F) → P
  place_after p [] = p
  place_after p (x ∷ lines) = place_after (partner.next p x.line x.found) lines

  -- whether there may be more after a line
  abbrev pub goes_on : Bool → List ℕ → Bool
  goes_on is_fed line = is_fed && not (partner.is_last line)

  -- a line after which there may be more, with what may be found for it
  pub record IsMiddle (p : P) (x : Exchange F) : Type 0 where
    pub one : IsOneLine x.line
    pub more : partner.is_last x.line ≡ false
    pub may : partner.MayFind p x.line x.found

  -- each of the lines is one, in its place
  abbrev pub AreMiddle : P → List (Exchange F) → Type 0
  AreMiddle p [] = Unit {0}
  AreMiddle p (x ∷ lines) = IsMiddle p x × AreMiddle (partner.next p x.line x.found) lines

  -- what goes on where a conversation closes from a place: nothing more is heard, or one more line, the last, is answered
  pub data Closes (p : P) : P → List Event → Type 0 where
    nothing_more : Closes p p (asked false [])
    last_line : (is_fed : Bool) (line : List ℕ) (found : F) → IsOneLine line → goes_on is_fed line ≡ false → partner.MayFind p line found
        → Closes p (partner.next p line found) (exchange p is_fed line found)

  -- What goes on where it breaks off from a place, with so many bytes that may be heard.
  pub data BreaksOff (p : P) (left : ℕ) : P → List Event → TalkFault → Type 0 where
    -- it was not begun
    unopened : BreaksOff p left p [] faults.NoMemory
    -- the prompt is told in part
    unasked : (n : ℕ) → BreaksOff p left p (told (take n partner.prompt) ++ WriteFailed ∷ []) faults.WriteFailed
    -- a line is heard in part
    unheard : (part : List ℕ) → IsOneLine part → BreaksOff p left p (told partner.prompt ++ (heard part ++ ReadFailed ∷ [])) faults.ReadFailed
    too_long : (part : List ℕ) → IsOneLine part → length part ≡ left → BreaksOff p left p (told partner.prompt ++ heard part) faults.TooLong
    no_memory : (part : List ℕ) → IsOneLine part → BreaksOff p left p (told partner.prompt ++ heard part) faults.NoMemory
    -- a line is not answered
    unanswered : (q : P) (is_fed : Bool) (line : List ℕ) → IsOneLine line → BreaksOff p left q (asked is_fed line) faults.NoMemory
    -- its answer is told in part
    untold : (is_fed : Bool) (line : List ℕ) (found : F) (n : ℕ) → IsOneLine line → partner.MayFind p line found
        → BreaksOff p left (partner.next p line found) (asked is_fed line ++ (told (take n (partner.reply p line found)) ++ WriteFailed ∷ [])) faults.WriteFailed

  -- A line was asked for and heard, where so many bytes might be heard, and now so many may.
  pub record HasHeard (Went : List Event → Type 0) (old new : ℕ) (is_fed : Bool) (line : List ℕ) : Type 0 where
    pub went : Went (asked is_fed line)
    pub one : IsOneLine line
    pub taken : new + line_size is_fed line ≡ old

  -- By what was found for it, a line that was heard is answered, and it is said whether there may be more. Without memory there is no
  -- answer, and the place may be any.
  abbrev pub AnswersBy : (List Event → Type 0) → P → P → Bool → List ℕ → F → Result Bool TalkFault → Type 0
  AnswersBy Went p q is_fed line found (Ok more) = Went (told (partner.reply p line found)) × (q ≡ partner.next p line found) × (more ≡ goes_on is_fed line)
  AnswersBy Went p q is_fed line found (Err faults.NoMemory) = Went []
  AnswersBy Went p q is_fed line found (Err faults.WriteFailed) =
      ((n : ℕ) × Went (told (take n (partner.reply p line found)) ++ WriteFailed ∷ [])) × (q ≡ partner.next p line found)
  AnswersBy Went p q is_fed line found (Err faults.ReadFailed) = ⊥
  AnswersBy Went p q is_fed line found (Err faults.TooLong) = ⊥

  -- The same by something that may be found for it.
  pub record Answers (Went : List Event → Type 0) (p q : P) (is_fed : Bool) (line : List ℕ) (result : Result Bool TalkFault) : Type 0 where
    pub found : F
    pub may : partner.MayFind p line found
    pub answers : AnswersBy Went p q is_fed line found result

  -- what one turn does
  abbrev pub Turns : (List Event → Type 0) → P → P → ℕ → ℕ → Result Bool TalkFault → Type 0
  Turns Went p q old new (Ok true) =
      (x : Exchange F) × IsMiddle p x × Went (exchange p true x.line x.found) × (q ≡ partner.next p x.line x.found) × (new + line_size true x.line ≡ old)
  Turns Went p q old new (Ok false) = (talk : List Event) × Went talk × Closes p q talk
  Turns Went p q old new (Err fault) = (talk : List Event) × Went talk × BreaksOff p old q talk fault

  -- how it ends
  abbrev pub Ends : P → P → ℕ → List Event → Result (Unit {0}) TalkFault → Type 0
  Ends p q left talk (Ok done) = Closes p q talk
  Ends p q left talk (Err fault) = BreaksOff p left q talk fault

  -- A conversation. Lines were heard and answered, each at once, and then it ended.
  pub record Converses (Went : List Event → Type 0) (p q : P) (result : Result (Unit {0}) TalkFault) : Type 0 where
    pub lines : List (Exchange F)
    pub middle : AreMiddle p lines
    pub left : ℕ
    pub limit : left + size lines ≡ max_heard
    pub last : List Event
    pub went : Went (exchanges p lines ++ last)
    pub ends : Ends (place_after p lines) q left last result

  -- the same, whatever place is left
  abbrev pub Talks : (List Event → Type 0) → P → Result (Unit {0}) TalkFault → Type 0
  Talks Went p result = (q : P) × Converses Went p q result
