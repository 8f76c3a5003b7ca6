-- How the parts of a turn make it.
use Rattle.std.proofs.Common.{◌≡◌, ℕ, ◌+◌, List, [], ◌∷◌, ◌++◌, take, Bool, true, false, not, ◌&&◌, ◌==◌, length, Result, Ok, Err, refl, sym, subst, arith}
use Rattle.std.proofs.lemmas.List.{append-nil}
use Rattle.talks.specs.declared.line.Line as code
use Rattle.talks.specs.declared.fault.TalkFault.{TalkFault}
use Rattle.talks.specs.declared.fault.TalkFault.TheVariants as faults
use Rattle.talks.specs.Events.{Event, Says, WriteFailed, heard, told}
use Rattle.talks.specs.Hearing.{Hears, IsOneLine, line_end, line_size}
use Rattle.talks.specs.Conversations.{Answers, AnswersBy, BreaksOff, Closes, Exchange, HasHeard, IsMiddle, Partner, Turns, asked, exchange, goes_on, is_nothing, last_line, no_memory, nothing_more, too_long, unanswered, unasked, unheard, untold}

true_of_not : (b : Bool) → not b ≡ true → b ≡ false
true_of_not true h = sym h
true_of_not false h = refl

module _ {T P F : Type 0} (Went : T → T → List Event → Type 0) (both : (a b c : T) (x y : List Event) → Went a b x → Went b c y → Went a c (x ++ y)) (partner : Partner P F) where
  -- the prompt is not told whole
  pub turn_unasked : (a b : T) (p : P) (old : ℕ) (fault : TalkFault) → Says (Went a b) partner.prompt (Err fault) → Turns partner (Went a b) p p old old (Err fault)
  turn_unasked a b p old faults.WriteFailed (n, went) = (told (take n partner.prompt) ++ WriteFailed ∷ [], went, unasked n)
  turn_unasked a b p old faults.ReadFailed never = absurd never
  turn_unasked a b p old faults.TooLong never = absurd never
  turn_unasked a b p old faults.NoMemory never = absurd never

  -- no line is heard
  pub turn_unheard : (a b c : T) (p : P) (old new : ℕ) (fault : TalkFault) → Went a b (told partner.prompt) → Hears (Went b c) old new (Err fault)
      → Turns partner (Went a c) p p old new (Err fault)
  turn_unheard a b c p old new faults.WriteFailed prompted never = absurd never
  turn_unheard a b c p old new faults.ReadFailed prompted (part, went, one) = (_, both a b c _ _ prompted went, unheard part one)
  turn_unheard a b c p old new faults.TooLong prompted (part, went, one, all) = (_, both a b c _ _ prompted went, too_long part one all)
  turn_unheard a b c p old new faults.NoMemory prompted (part, went, one) = (_, both a b c _ _ prompted went, no_memory part one)

  -- there is no line more
  pub turn_nothing : (a b c : T) (p : P) (old new : ℕ) (is_fed : Bool) (line : List ℕ) → Went a b (told partner.prompt) → Went b c (heard line ++ line_end is_fed)
      → is_nothing is_fed line ≡ true → Turns partner (Went a c) p p old new (Ok false)
  turn_nothing a b c p old new true line prompted went nothing = absurd (cc)
  turn_nothing a b c p old new false [] prompted went nothing = (_, both a b c _ _ prompted went, nothing_more)
  turn_nothing a b c p old new false (x ∷ line) prompted went nothing = absurd (grind arith)

  -- a line is heard
  pub heard_whole : (a b c : T) (old new : ℕ) (is_fed : Bool) (line : List ℕ) → Went a b (told partner.prompt) → Went b c (heard line ++ line_end is_fed) → IsOneLine line
      → new + line_size is_fed line ≡ old → HasHeard partner (Went a c) old new is_fed line
  heard_whole a b c old new is_fed line prompted went one taken = record { went = both a b c _ _ prompted went; one = one; taken = taken }

  -- a line that was heard is not answered
  pub turn_unanswered : (a b : T) (p q : P) (old new : ℕ) (is_fed : Bool) (line : List ℕ) → HasHeard partner (Went a b) old new is_fed line
      → Turns partner (Went a b) p q old new (Err faults.NoMemory)
  turn_unanswered a b p q old new is_fed line so = (asked partner is_fed line, so.went, unanswered q is_fed line so.one)

  -- it is answered, and there may be more, or not
  turn_on : (a b : T) (p q : P) (old new : ℕ) (is_fed : Bool) (line : List ℕ) (found : F) (more : Bool) → Went a b (exchange partner p is_fed line found) → IsOneLine line
      → partner.MayFind p line found → new + line_size is_fed line ≡ old → q ≡ partner.next p line found → goes_on partner is_fed line ≡ more → Turns partner (Went a b) p q old new (Ok more)
  turn_on a b p q old new true line found true went one may taken next is =
      (record { line = line; found = found }, record { one = one; more = true_of_not (partner.is_last line) is; may = may }, went, next, taken)
  turn_on a b p q old new false line found true went one may taken next is = absurd (cc)
  turn_on a b p q old new is_fed line found false went one may taken next is =
      let Gone : P → Type 0 = λ (x : P). Turns partner (Went a b) p x old new (Ok false) in
      subst Gone (sym next) (exchange partner p is_fed line found, went, last_line is_fed line found one is may)

  -- it is answered by what was found, or not whole
  answered_by : (a b c : T) (p q : P) (old new : ℕ) (is_fed : Bool) (line : List ℕ) (found : F) (result : Result Bool TalkFault) → HasHeard partner (Went a b) old new is_fed line
      → partner.MayFind p line found → AnswersBy partner (Went b c) p q is_fed line found result → Turns partner (Went a c) p q old new result
  answered_by a b c p q old new is_fed line found (Ok more) so may (went, next, is) =
      turn_on a c p q old new is_fed line found more (both a b c _ _ so.went went) so.one may so.taken next (sym is)
  answered_by a b c p q old new is_fed line found (Err faults.WriteFailed) so may ((n, told_part), next) =
      let Gone : P → Type 0 = λ (x : P). Turns partner (Went a c) p x old new (Err faults.WriteFailed) in
      subst Gone (sym next) (_, both a b c _ _ so.went told_part, untold is_fed line found n so.one may)
  answered_by a b c p q old new is_fed line found (Err faults.ReadFailed) so may never = absurd never
  answered_by a b c p q old new is_fed line found (Err faults.TooLong) so may never = absurd never
  answered_by a b c p q old new is_fed line found (Err faults.NoMemory) so may nothing =
      (_, subst (λ (x : List Event). Went a c x) (append-nil _) (both a b c _ _ so.went nothing), unanswered q is_fed line so.one)

  pub turn_answered : (a b c : T) (p q : P) (old new : ℕ) (is_fed : Bool) (line : List ℕ) (result : Result Bool TalkFault) → HasHeard partner (Went a b) old new is_fed line
      → Answers partner (Went b c) p q is_fed line result → Turns partner (Went a c) p q old new result
  turn_answered a b c p q old new is_fed line result so answered = answered_by a b c p q old new is_fed line answered.found result so answered.may answered.answers
