-- Turns, as they are made.
use Rattle.std.proofs.Common.{◌≡◌, ℕ, ◌+◌, ◌<◌, List, [], ◌++◌, Bool, true, false, Result, Ok, Err, map, length, arith}
use Rattle.std.specs.Prelude.{if◌then◌else◌, OnOk}
use Rattle.lines_layout.specs.Layouts.{NamedLines}
use Rattle.litmus_text.specs.declared.text_lines.LinedObject.{LinedObject}
use Rattle.machine.specs.State.{State}
use Rattle.conditions.specs.Formulas.{Formula}
use Rattle.debugger.specs.Sessions.{SessionValue, opened}
use Rattle.debug_scripts.specs.declared.orders.WatchOrder.{WatchOrder}
use Rattle.debug_scripts.specs.Ahead.{Ahead, steps_ahead}
use Rattle.debug_scripts.specs.DebugReports.{HasShape}
use Rattle.talks.specs.declared.line.Line.{Line}
use Rattle.talks.specs.declared.fault.TalkFault.{TalkFault}
use Rattle.talks.specs.declared.fault.TalkFault.TheVariants as faults
use Rattle.talks.specs.Events.{Event, told}
use Rattle.talks.specs.Conversations.{Converses, HasHeard, Turns, max_heard}
use Rattle.talks.proofs.PartsOfTurns.{turn_answered, turn_unanswered}
use Rattle.talks.proofs.TurnsInTurn.{GoesOn, begun, broken, closed, one_more}
use Rattle.conversations.specs.declared.asked.Asked.{Asked}
use Rattle.conversations.specs.declared.asked.Asked.TheVariants as asks
use Rattle.conversations.specs.declared.asked.Order.{Order}
use Rattle.conversations.specs.declared.heard.Heard.{Heard}
use Rattle.conversations.specs.declared.heard.Heard.TheVariants as hears
use Rattle.conversations.specs.declared.line_fault.LineFault.{LineFault}
use Rattle.conversations.specs.Asking.{as_asked, asked_of}
use Rattle.conversations.specs.Checking.{Found, nothing_found}
use Rattle.conversations.specs.Desks.{Declaration}
use Rattle.conversations.specs.Answered.{KeepsShape, MayFind, Place, answered, armed_at, first_place, partner, place, watched_at}
use Rattle.conversations.specs.Turning.{Asks, IsHeard, IsRead, Replies, RepliesFound, ended, is_more, may_go_on}
use Rattle.conversations.proofs.AnswersGiven.{answers_line}

-- how often there may be a turn more: fewer times than bytes may still be heard, and one
abbrev pub turns_left : Result Bool TalkFault → ℕ → ℕ
turns_left turn left = if is_more turn then left + 1 else 0

-- What holds where a turn says that there may be more.
pub on_more : {X : Type 0} (r : Result Bool TalkFault) → OnOk r X → is_more r ≡ true → X
on_more (Ok more) h is = h
on_more (Err fault) h is = absurd (cc)

-- the session has the words of the layout, where it had them before
pub shape_kept : (names : NamedLines) (v w : SessionValue) (r : Result Bool TalkFault) → OnOk r (KeepsShape v w) → HasShape names v → is_more r ≡ true → HasShape names w
shape_kept names v w (Ok more) keeps has is = keeps names has
shape_kept names v w (Err fault) keeps has is = absurd (cc)

-- and where it begins
pub first_shape : (names : NamedLines) (v : SessionValue) (s : State) → v ≡ opened s → s.shape ≡ map length names → HasShape names v
first_shape names v s opens has = rw opens (record { now = has; opening = has })

-- a turn takes a byte at least, where there may be more
fewer_turns : (lined : LinedObject) (Went : List Event → Type 0) (p q : Place) (left new : ℕ) (turn : Result Bool TalkFault) → Turns (partner lined) Went p q left new turn
    → turns_left turn new < left + 1
fewer_turns lined Went p q left new (Ok true) (line, middle, went, next, taken) = omega (arith, taken)
fewer_turns lined Went p q left new (Ok false) so = omega arith
fewer_turns lined Went p q left new (Err fault) so = omega arith

pub turns_fall : (lined : LinedObject) (Went : List Event → Type 0) (p q : Place) (left new : ℕ) (turn then' : Result Bool TalkFault) → is_more turn ≡ true
    → Turns (partner lined) Went p q left new then' → turns_left then' new < turns_left turn left
turns_fall lined Went p q left new turn then' more turned = rw more (fewer_turns lined Went p q left new then' turned)

module _ {T : Type 0} (Went : T → T → List Event → Type 0) (both : (a b c : T) (x y : List Event) → Went a b x → Went b c y → Went a c (x ++ y)) (lined : LinedObject) where
  -- a line is heard, and read
  pub asks_line : (a b : T) (left new : ℕ) (line : Line) (r : Result Heard TalkFault) → IsHeard lined (Went a b) left new line → IsRead lined.object.layout line r
      → Asks lined (Went a b) left new r
  asks_line a b left new line (Ok hears.Nothing) so never = absurd never
  asks_line a b left new line (Ok (hears.Stop own id asked cond)) so (same, is, twice) = rw same (so, is, twice)
  asks_line a b left new line (Ok (hears.Watch own order halts)) so (same, is) = rw same (so, is)
  asks_line a b left new line (Ok (hears.Check own cond)) so (same, is) = rw same (so, is)
  asks_line a b left new line (Ok (hears.Other own order)) so (same, is) = rw same (so, is)
  asks_line a b left new line (Err fault) so is = λ p. rw is (turn_unanswered Went both (partner lined) a b p p left new line.is_fed line.bytes.items so)

  -- a line that asks this is answered
  pub line_answered : (a b c : T) (p q : Place) (left new : ℕ) (line : Line) (asked : Result Asked LineFault) (found : Found) (r : Result Bool TalkFault)
      → HasHeard (partner lined) (Went a b) left new line.is_fed line.bytes.items → asked_of lined.object.layout line.bytes.items ≡ asked → MayFind lined p asked found
      → Replies (Went b c) (answered lined p line.bytes.items asked found) q (may_go_on line.is_fed line.bytes.items) r → Turns (partner lined) (Went a c) p q left new r
  line_answered a b c p q left new line asked found r so is may told =
      turn_answered Went both (partner lined) a b c p q left new line.is_fed line.bytes.items r so
      (answers_line lined (Went b c) p q line.is_fed line.bytes.items asked found r is may told)

  -- the same of a stop
  pub stop_answered : (a b c : T) (p q : Place) (left new : ℕ) (line : Line) (id armed_id : ℕ) (cond armed_cond : Formula) (r : Result Bool TalkFault)
      → HasHeard (partner lined) (Went a b) left new line.is_fed line.bytes.items → asked_of lined.object.layout line.bytes.items ≡ Ok (asks.Stop id cond)
      → armed_id ≡ id → armed_cond ≡ cond → Replies (Went b c) (armed_at p line.bytes.items armed_id armed_cond) q (may_go_on line.is_fed line.bytes.items) r
      → Turns (partner lined) (Went a c) p q left new r
  stop_answered a b c p q left new line id armed_id cond armed_cond r so is same_id same_cond told =
      line_answered a b c p q left new line (Ok (asks.Stop id cond)) nothing_found r so is tt (rw (same_id, same_cond) at told)

  -- and of a watch
  pub watch_answered : (a b c : T) (p q : Place) (left new : ℕ) (line : Line) (order : WatchOrder) (halts : Bool) (id : ℕ) (r : Result Bool TalkFault)
      → HasHeard (partner lined) (Went a b) left new line.is_fed line.bytes.items → asked_of lined.object.layout line.bytes.items ≡ Ok (asks.Watch order halts)
      → id ≡ order.id → Replies (Went b c) (watched_at p line.bytes.items id order.word halts) q (may_go_on line.is_fed line.bytes.items) r
      → Turns (partner lined) (Went a c) p q left new r
  watch_answered a b c p q left new line order halts id r so is same told =
      line_answered a b c p q left new line (Ok (asks.Watch order halts)) nothing_found r so is tt (rw same at told)

  -- and where all runs are asked about
  pub check_answered : (a b c : T) (p q : Place) (left new : ℕ) (line : Line) (cond : Formula) (r : Result Bool TalkFault)
      → HasHeard (partner lined) (Went a b) left new line.is_fed line.bytes.items → asked_of lined.object.layout line.bytes.items ≡ Ok (asks.Check cond)
      → RepliesFound lined (Went b c) p q cond (may_go_on line.is_fed line.bytes.items) r → Turns (partner lined) (Went a c) p q left new r
  check_answered a b c p q left new line cond r so is told = line_answered a b c p q left new line (Ok (asks.Check cond)) told.found r so is told.is told.replies

  -- and of any other line
  pub other_answered : (a b c : T) (p q : Place) (left new : ℕ) (line : Line) (order : Result Order LineFault) (r : Result Bool TalkFault)
      → HasHeard (partner lined) (Went a b) left new line.is_fed line.bytes.items → asked_of lined.object.layout line.bytes.items ≡ as_asked order
      → Replies (Went b c) (answered lined p line.bytes.items (as_asked order) nothing_found) q (may_go_on line.is_fed line.bytes.items) r → Turns (partner lined) (Went a c) p q left new r
  other_answered a b c p q left new line (Ok order) r so is told = line_answered a b c p q left new line (as_asked (Ok order)) nothing_found r so is tt told
  other_answered a b c p q left new line (Err fault) r so is told = line_answered a b c p q left new line (as_asked (Err fault)) nothing_found r so is tt told

  -- or there is no memory for the answer
  pub line_unanswered : (a b : T) (p q : Place) (left new : ℕ) (line : Line) → HasHeard (partner lined) (Went a b) left new line.is_fed line.bytes.items
      → Turns (partner lined) (Went a b) p q left new (Err faults.NoMemory)
  line_unanswered a b p q left new line so = turn_unanswered Went both (partner lined) a b p q left new line.is_fed line.bytes.items so

module _ {T : Type 0} (Went : T → T → List Event → Type 0) (nothing : (t : T) → Went t t []) (both : (a b c : T) (x y : List Event) → Went a b x → Went b c y → Went a c (x ++ y))
    (lined : LinedObject) where
  -- a conversation begins
  pub begins : (t : T) (s : State) (v : SessionValue) (a : Ahead) (ds : List Declaration) → v ≡ opened s → a ≡ steps_ahead [] [] → ds ≡ []
      → GoesOn (partner lined) (Went t t) (first_place s) (place v a ds) max_heard
  begins t s v a ds opens none no_lines = rw (opens, none, no_lines) (begun Went nothing both (partner lined) t (first_place s))

  -- one turn more, after which it goes on
  pub still_going : (a b c : T) (p q r : Place) (left new : ℕ) (turn : Result Bool TalkFault) → GoesOn (partner lined) (Went a b) p q left
      → Turns (partner lined) (Went b c) q r left new turn → is_more turn ≡ true → GoesOn (partner lined) (Went a c) p r new
  still_going a b c p q r left new (Ok true) so turned more = one_more Went nothing both (partner lined) a b c p q r left new so turned
  still_going a b c p q r left new (Ok false) so turned more = absurd (cc)
  still_going a b c p q r left new (Err fault) so turned more = absurd (cc)

  -- or it is over
  pub now_over : (a b c : T) (p q r : Place) (left new : ℕ) (turn : Result Bool TalkFault) → GoesOn (partner lined) (Went a b) p q left
      → Turns (partner lined) (Went b c) q r left new turn → is_more turn ≡ false → Converses (partner lined) (Went a c) p r (ended turn)
  now_over a b c p q r left new (Ok true) so turned over = absurd (cc)
  now_over a b c p q r left new (Ok false) so turned over = closed Went nothing both (partner lined) a b c p q r left new so turned
  now_over a b c p q r left new (Err fault) so turned over = broken Went nothing both (partner lined) a b c p q r left new fault so turned
