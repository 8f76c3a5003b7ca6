-- One turn of a conversation: a line is asked for and read, and then it is answered.
use Rattle.std.specs.Prelude.{◌≡◌, ℕ, ◌∷◌, [], ◌++◌, ◌&&◌, List, Bool, false, not, codes, take, Result, Ok, Err}
use Rattle.lines_layout.specs.Layouts.{NamedLines}
use Rattle.litmus_text.specs.declared.text_lines.LinedObject.{LinedObject}
use Rattle.conditions.specs.Formulas.{Formula}
use Rattle.talks.specs.declared.fault.TalkFault.{TalkFault}
use Rattle.talks.specs.declared.fault.TalkFault.TheVariants as faults
use Rattle.talks.specs.declared.line.Line.{Line}
use Rattle.talks.specs.Events.{Event, WriteFailed, told}
use Rattle.talks.specs.Conversations.{HasHeard, Turns}
use Rattle.conversations.specs.declared.asked.Asked.TheVariants as asks
use Rattle.conversations.specs.declared.heard.Heard.{Heard}
use Rattle.conversations.specs.declared.heard.Heard.TheVariants as hears
use Rattle.conversations.specs.Asking.{as_asked, asked_of, is_word}
use Rattle.conversations.specs.Checking.{Found, IsFound}
use Rattle.conversations.specs.Answered.{Answer, Place, checked_at, partner}

-- A line asks this, or there is no memory to read it.
abbrev pub IsRead : NamedLines → Line → Result Heard TalkFault → Type 0
IsRead names line (Ok hears.Nothing) = ⊥
IsRead names line (Ok (hears.Stop own id asked cond)) = (own ≡ line) × (asked_of names line.bytes.items ≡ Ok (asks.Stop id cond)) × (asked ≡ cond)
IsRead names line (Ok (hears.Watch own order halts)) = (own ≡ line) × (asked_of names line.bytes.items ≡ Ok (asks.Watch order halts))
IsRead names line (Ok (hears.Check own cond)) = (own ≡ line) × (asked_of names line.bytes.items ≡ Ok (asks.Check cond))
IsRead names line (Ok (hears.Other own order)) = (own ≡ line) × (asked_of names line.bytes.items ≡ as_asked order)
IsRead names line (Err fault) = fault ≡ faults.NoMemory

-- A line was asked for and heard.
abbrev pub IsHeard : LinedObject → (List Event → Type 0) → ℕ → ℕ → Line → Type 0
IsHeard lined Went old new line = HasHeard (partner lined) Went old new line.is_fed line.bytes.items

-- In each place this is what the turn does.
abbrev pub IsTurn : LinedObject → (List Event → Type 0) → ℕ → ℕ → Result Bool TalkFault → Type 0
IsTurn lined Went old new result = (p : Place) → Turns (partner lined) Went p p old new result

-- What goes on up to where it is known what a line asks: it is heard, and asks this; or there is no line more; or the conversation
-- breaks off.
abbrev pub Asks : LinedObject → (List Event → Type 0) → ℕ → ℕ → Result Heard TalkFault → Type 0
Asks lined Went old new (Ok hears.Nothing) = IsTurn lined Went old new (Ok false)
Asks lined Went old new (Ok (hears.Stop line id asked cond)) =
    IsHeard lined Went old new line × (asked_of lined.object.layout line.bytes.items ≡ Ok (asks.Stop id cond)) × (asked ≡ cond)
Asks lined Went old new (Ok (hears.Watch line order halts)) =
    IsHeard lined Went old new line × (asked_of lined.object.layout line.bytes.items ≡ Ok (asks.Watch order halts))
Asks lined Went old new (Ok (hears.Check line cond)) =
    IsHeard lined Went old new line × (asked_of lined.object.layout line.bytes.items ≡ Ok (asks.Check cond))
Asks lined Went old new (Ok (hears.Other line order)) =
    IsHeard lined Went old new line × (asked_of lined.object.layout line.bytes.items ≡ as_asked order)
Asks lined Went old new (Err fault) = IsTurn lined Went old new (Err fault)

-- An answer is told, which leads to its place, and it is said whether there may be more. Without memory nothing is told.
abbrev pub Replies : (List Event → Type 0) → Answer → Place → Bool → Result Bool TalkFault → Type 0
Replies Went a q may (Ok more) = Went (told a.text) × (q ≡ a.place) × (more ≡ may)
Replies Went a q may (Err faults.NoMemory) = Went []
Replies Went a q may (Err faults.WriteFailed) = ((n : ℕ) × Went (told (take n a.text) ++ WriteFailed ∷ [])) × (q ≡ a.place)
Replies Went a q may (Err faults.ReadFailed) = ⊥
Replies Went a q may (Err faults.TooLong) = ⊥

-- The same of what was found of all runs from a place: something that is right.
pub record RepliesFound (lined : LinedObject) (Went : List Event → Type 0) (p q : Place) (cond : Formula) (may : Bool) (result : Result Bool TalkFault) : Type 0 where
  pub found : Found
  pub is : IsFound lined p.session.past.history cond found
  pub replies : Replies Went (checked_at p found) q may result

-- The same of a text alone.
abbrev pub TellsMore : (List Event → Type 0) → List ℕ → Bool → Result Bool TalkFault → Type 0
TellsMore Went text may (Ok more) = Went (told text) × (more ≡ may)
TellsMore Went text may (Err faults.WriteFailed) = (n : ℕ) × Went (told (take n text) ++ WriteFailed ∷ [])
TellsMore Went text may (Err faults.ReadFailed) = ⊥
TellsMore Went text may (Err faults.TooLong) = ⊥
TellsMore Went text may (Err faults.NoMemory) = ⊥

-- whether there may be more after a line: a line feed ended it, and it is not `quit`
abbrev pub may_go_on : Bool → List ℕ → Bool
may_go_on is_fed line = is_fed && not (is_word line (codes "quit"))

-- whether there may be more after a turn
abbrev pub is_more : Result Bool TalkFault → Bool
is_more (Ok more) = more
is_more (Err fault) = false

-- how a conversation ended, by its last turn
abbrev pub ended : Result Bool TalkFault → Result (Unit {0}) TalkFault
ended (Ok more) = Ok tt
ended (Err fault) = Err fault
