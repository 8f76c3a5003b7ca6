-- Answers, as they are made.
use Rattle.std.proofs.Common.{◌≡◌, ℕ, ◌<◌, ◌≤◌, ◌-◌, List, [], ◌∷◌, ◌++◌, length, take, drop, Bool, true, false, Option, Some, None, Result, Ok, Err, refl, sym, ◌∙◌, ap, subst, arith, inl, inr}
use Rattle.std.proofs.lemmas.Bool.{cases_Bool, lt-ltb}
use Rattle.std.proofs.lemmas.Bool.Decides.{nat_tests}
use Rattle.std.proofs.Math.Nat.{min-le_right}
use Rattle.std.proofs.lemmas.List.{length-take}
use Rattle.std.specs.Prelude.{if◌then◌else◌, IfErr, IfOk, OnErr, OnOk, nat_lt, ◌↔◌}
use Rattle.machine.proofs.RunIsAPrefix.{run_shape}
use Rattle.lines_layout.specs.Layouts.{NamedLines}
use Rattle.lines_layout.specs.Names.{Text}
use Rattle.litmus_text.specs.declared.text_lines.LinedObject.{LinedObject}
use Rattle.machine.specs.declared.step.Step.{Step}
use Rattle.explore.specs.Falls.{fall_at}
use Rattle.debugger.specs.Halts.{HaltsAt, halt_of, made}
use Rattle.debugger.specs.Marks.{tried}
use Rattle.debugger.specs.declared.halt.Halt.{Halt}
use Rattle.debugger.specs.declared.halt.Halt.TheVariants as halts
use Rattle.debugger.specs.Sessions.{SessionValue, after, unmade}
use Rattle.debugger.specs.declared.fault.SessionFault.{SessionFault}
use Rattle.debugger.specs.declared.fault.SessionFault.TheVariants.{TooFar}
use Rattle.debug_scripts.specs.Ahead.{Ahead, all_ahead, steps_ahead}
use Rattle.debug_scripts.specs.DebugReports.{Stand, follow, stand}
use Rattle.debug_scripts.specs.declared.orders.Command.{Command}
use Rattle.debug_scripts.specs.declared.orders.Command.TheVariants as commands
use Rattle.debug_scripts.specs.SessionTexts.{IsMade, back_text, fault_line}
use Rattle.debug_scripts.proofs.PlayedCommands.{tried_ahead}
use Rattle.talks.specs.declared.fault.TalkFault.{TalkFault}
use Rattle.talks.specs.declared.fault.TalkFault.TheVariants as talk_faults
use Rattle.talks.specs.Events.{Event, WriteFailed, told}
use Rattle.talks.specs.Conversations.{Answers, AnswersBy}
use Rattle.conversations.specs.declared.asked.Asked.{Asked}
use Rattle.conversations.specs.declared.breaks.Cut.{Cut}
use Rattle.conversations.specs.declared.line_fault.LineFault.{LineFault}
use Rattle.conversations.specs.Asking.{asked_of}
use Rattle.conversations.specs.Checking.{Found, ahead_found, found_text}
use Rattle.conversations.specs.Breaks.{cut_line, cut_of, made_text, session_made, tried_of, up_to}
use Rattle.conversations.specs.Desks.{Declaration, declared_after}
use Rattle.conversations.specs.Answered.{Answer, KeepsShape, MayFind, Place, made_at, answer, answer_by, answer_to, answered, checked_at, crashed_at, followed_at, gone_at, gone_to, is_beside_steps, no_step_line, partner, picked_at, place, unmade_at, walked_by}
use Rattle.conversations.specs.Turning.{Replies, TellsMore, may_go_on}

-- ---- steps that are made

halt_is : (v : SessionValue) (steps : List Step) (h : Halt) → HaltsAt v steps h → IsMade h → halt_of v steps ≡ h
halt_is v steps (halts.Stop id n) e m = e
halt_is v steps (halts.Refused n r) e m = e
halt_is v steps (halts.NoMemory n) e m = absurd m
halt_is v steps halts.End e m = e

module _ (v w : SessionValue) (steps : List Step) (h : Halt) (halted : HaltsAt v steps h) (answered : IsMade h) where
  -- steps are made, up to where they halt
  pub made_so : w ≡ after v (take (made steps h) steps) → w ≡ after v (take (made steps (halt_of v steps)) steps)
  made_so moved = rw (halt_is v steps h halted answered) moved

  -- that is written
  pub written_so : (cut : Option Cut) (old text : List ℕ) → text ≡ old ++ cut_line cut h → old ≡ [] → text ≡ cut_line cut (halt_of v steps)
  written_so cut old text written none = rw (halt_is v steps h halted answered) (rw none at written)

  -- and so many were tried
  pub tried_so : (count : ℕ) → count ≡ tried steps h → count ≡ tried steps (halt_of v steps)
  tried_so count is = rw (halt_is v steps h halted answered) is

  pub tried_within : (count : ℕ) → count ≡ tried steps h → count ≤ length steps
  tried_within count is = rw is (tried_ahead v steps steps h halted refl)

-- the steps up to a break
few : (cut : Option Cut) (steps : List Step) → length (up_to cut steps) ≤ length steps
few None steps = omega arith
few (Some cut) steps = rw (length-take cut.count steps) (min-le_right cut.count (length steps))

pub few_within : {E : Type 0} (cut : Option Cut) (steps some : List Step) → some ≡ up_to cut steps → (r : Result ℕ E) → IfOk r (λ count. count ≤ length some) → IfOk r (λ count. count ≤ length steps)
few_within cut steps some they (Err fault) within = tt
few_within cut steps some they (Ok count) within =
    let less : count ≤ length (up_to cut steps) = rw they at within in
    omega (arith, few cut steps, less)

-- steps up to a break are made
pub some_made : {E : Type 0} (lined : LinedObject) (v w : SessionValue) (a : Ahead) (ds : List Declaration) (cut : Option Cut) (steps some : List Step)
    → cut ≡ cut_of lined ds v.past.state steps → some ≡ up_to cut steps → (text : List ℕ) (r : Result ℕ E) → OnOk r (w ≡ after v (take (made some (halt_of v some)) some))
    → OnOk r (text ≡ cut_line cut (halt_of v some)) → OnOk r (answer (place w a ds) text ≡ made_at lined (place v a ds) steps)
some_made lined v w a ds cut steps some is they text (Err fault) moved written = tt
some_made lined v w a ds cut steps some is they text (Ok count) moved written = rw (moved, written, they, is) refl

pub some_tried : {E : Type 0} (lined : LinedObject) (v : SessionValue) (ds : List Declaration) (cut : Option Cut) (steps some : List Step)
    → cut ≡ cut_of lined ds v.past.state steps → some ≡ up_to cut steps → (r : Result ℕ E) → IfOk r (λ count. count ≡ tried some (halt_of v some)) → IfOk r (λ count. count ≡ tried_of lined ds v steps)
some_tried lined v ds cut steps some is they (Err fault) tries = tt
some_tried lined v ds cut steps some is they (Ok count) tries = rw (they, is) at tries

-- those behind it are ahead still
left_so : (lined : LinedObject) (v w : SessionValue) (a b : Ahead) (ds : List Declaration) (steps : List Step) (text : List ℕ) (count : ℕ)
    → answer (place w a ds) text ≡ made_at lined (place v a ds) steps → count ≡ tried_of lined ds v steps → b ≡ steps_ahead (drop count steps) []
    → answer (place w b ds) text ≡ gone_at lined (place v a ds) steps
left_so lined v w a b ds steps text count answers tries left =
    let moved : w ≡ session_made lined ds v steps = ap (λ (x : Answer). x.place.session) answers in
    let written : text ≡ made_text lined ds v steps = ap (λ (x : Answer). x.text) answers in
    rw (left, tries, moved, written) refl

pub gone_so : (lined : LinedObject) (v w : SessionValue) (a b : Ahead) (ds : List Declaration) (some steps : List Step) (text : List ℕ) (count : ℕ) → some ≡ steps
    → answer (place w a ds) text ≡ made_at lined (place v a ds) some → count ≡ tried_of lined ds v some → b ≡ steps_ahead (drop count steps) []
    → answer (place w b ds) text ≡ gone_at lined (place v a ds) steps
gone_so lined v w a b ds some steps text count is answers tries left =
    left_so lined v w a b ds steps text count (subst (λ (xs : List Step). answer (place w a ds) text ≡ made_at lined (place v a ds) xs) is answers)
    (subst (λ (xs : List Step). count ≡ tried_of lined ds v xs) is tries) left

pub after_keeps : (v w : SessionValue) (steps : List Step) → w ≡ after v steps → KeepsShape v w
after_keeps v w steps e =
    subst (λ (x : SessionValue). KeepsShape v x) (sym e) (λ names h. record { now = run_shape steps v.past.state ∙ h.now; opening = h.opening })

-- the step of a number is made, or none has it
pub picked_so : {E : Type 0} (lined : LinedObject) (p q : Place) (n : ℕ) (found : Option Step) (steps : List Step) (step : Step) (text : List ℕ) (r : Result (Unit {0}) E)
    → found ≡ Some step → steps ≡ step ∷ [] → OnOk r (answer q text ≡ made_at lined p steps) → OnOk r (answer q text ≡ picked_at lined p n found)
picked_so lined p q n found steps step text (Err refused) is one made = tt
picked_so lined p q n found steps step text (Ok told) is one made = made ∙ ap (made_at lined p) one ∙ ap (picked_at lined p n) (sym is)

pub none_picked : (lined : LinedObject) (p : Place) (n : ℕ) (found : Option Step) (text : List ℕ) → found ≡ None → text ≡ no_step_line n → answer p text ≡ picked_at lined p n found
none_picked lined p n found text is written = ap (answer p) written ∙ ap (picked_at lined p n) (sym is)

-- the first of the steps ahead is made
pub walked_so : {E : Type 0} (lined : LinedObject) (v w : SessionValue) (a b : Ahead) (ds : List Declaration) (found : Option Step) (steps : List Step) (step : Step) (text : List ℕ)
    (r : Result (Unit {0}) E) → found ≡ Some step → steps ≡ step ∷ [] → b ≡ steps_ahead (drop 1 (all_ahead a)) []
    → OnOk r (answer (place w b ds) text ≡ made_at lined (place v b ds) steps) → OnOk r (answer (place w b ds) text ≡ walked_by lined (place v a ds) found)
walked_so lined v w a b ds found steps step text (Err refused) is one next made = tt
walked_so lined v w a b ds found steps step text (Ok told) is one next made = rw (is, next) (rw (one, next) at made)

-- the crash leaves an image
pub crashed_so : {E : Type 0} (lined : LinedObject) (p q : Place) (found : Option (List ℕ)) (places : List ℕ) (text : List ℕ) (r : Result (Unit {0}) E) → found ≡ Some places
    → OnOk r (answer q text ≡ made_at lined p (fall_at p.session.past.state.memory.pending places)) → OnOk r (answer q text ≡ crashed_at lined p found)
crashed_so lined p q found places text (Err refused) is made = tt
crashed_so lined p q found places text (Ok told) is made = made ∙ ap (crashed_at lined p) (sym is)

-- ---- commands of a script that make no steps

either_ahead : (b : Bool) (v w : SessionValue) (x y : Text) (n a : Ahead)
    → (if b then stand v a x else stand w a y) ≡ stand (if b then stand v n x else stand w n y).session a (if b then stand v n x else stand w n y).text
either_ahead true v w x y n a = refl
either_ahead false v w x y n a = refl

-- they leave the steps ahead, and do the same whatever these are
beside_ahead : (names : NamedLines) (v : SessionValue) (n a : Ahead) (command : Command) → is_beside_steps command ≡ true
    → follow names (stand v a []) command ≡ stand (follow names (stand v n []) command).session a (follow names (stand v n []) command).text
beside_ahead names v n a (commands.Gather step) never = absurd (cc)
beside_ahead names v n a commands.Go never = absurd (cc)
beside_ahead names v n a commands.Continue never = absurd (cc)
beside_ahead names v n a (commands.Back count) is = either_ahead (nat_lt (length v.past.history) count) _ _ _ _ n a
beside_ahead names v n a commands.Show is = refl
beside_ahead names v n a commands.Images is = refl
beside_ahead names v n a (commands.Values asked) is = refl
beside_ahead names v n a (commands.Disarm id) is = refl
beside_ahead names v n a (commands.Detach id) is = refl

pub followed_so : (lined : LinedObject) (v w : SessionValue) (a n m : Ahead) (ds es : List Declaration) (old text : List ℕ) (command : Command) → is_beside_steps command ≡ true
    → stand w m text ≡ follow lined.object.layout (stand v n old) command → old ≡ [] → es ≡ declared_after command ds
    → answer (place w a es) text ≡ followed_at lined (place v a ds) command
followed_so lined v w a n m ds es old text command beside follows none declares =
    let z : stand w m text ≡ follow lined.object.layout (stand v n []) command = rw none at follows in
    let moved : w ≡ (follow lined.object.layout (stand v n []) command).session = ap (λ (s : Stand). s.session) z in
    let written : text ≡ (follow lined.object.layout (stand v n []) command).text = ap (λ (s : Stand). s.text) z in
    rw (declares, moved, written) (ap (λ (s : Stand). answer_by s (declared_after command ds)) (sym (beside_ahead lined.object.layout v n a command beside)))

-- ---- steps that are taken back

lt_false : (a b : ℕ) → (a < b → ⊥) → nat_lt a b ≡ false
lt_false a b h = elim (cases_Bool (nat_lt a b)) [ inl less ↦ (let below : a < b = grind (arith, nat_tests) in absurd (h below)) | inr more ↦ more ]

module _ {E : Type 0} (v w : SessionValue) (n : ℕ) (old text : List ℕ) where
  -- the last steps are taken back, if there are so many, and that is written
  pub taken_back : (gone : Result (Unit {0}) SessionFault) (r : Result (Unit {0}) E) → IfErr gone (λ fault. fault ≡ TooFar) → (gone ≡ Err TooFar ↔ (length v.past.history < n))
      → OnOk gone (w ≡ unmade v n) → OnErr gone (w ≡ v) → OnOk r (text ≡ old ++ back_text n gone) → old ≡ []
      → OnOk r ((a : Ahead) (ds : List Declaration) → answer (place w a ds) text ≡ unmade_at (place v a ds) n)
  taken_back gone (Err refused) only far back same written none = tt
  taken_back (Ok done) (Ok told) only far back same written none =
      let near : nat_lt (length v.past.history) n ≡ false = lt_false (length v.past.history) n (λ below. (let wrong : ◌≡◌ {A = Result (Unit {0}) SessionFault} (Ok done) (Err TooFar) = far.1 below in absurd (cc))) in
      λ a ds. rw (near, back, written, none) refl
  taken_back (Err fault) (Ok told) only far back same written none =
      let is : ◌≡◌ {A = Result (Unit {0}) SessionFault} (Err fault) (Err TooFar) = ap (λ (f : SessionFault). Err f) only in
      let below : nat_lt (length v.past.history) n ≡ true = lt-ltb (length v.past.history) n (far.0 is) in
      λ a ds. rw (below, same, written, none, only) refl

  -- fewer steps were made than are to be left
  pub gone_too_far : (made : ℕ) (r : Result (Unit {0}) E) → made ≡ length v.past.history → made < n → OnOk r (text ≡ old ++ fault_line TooFar) → old ≡ []
      → OnOk r ((a : Ahead) (ds : List Declaration) → answer (place v a ds) text ≡ gone_to (place v a ds) n)
  gone_too_far made (Err refused) is less written none = tt
  gone_too_far made (Ok told) is less written none =
      let below : nat_lt (length v.past.history) n ≡ true = lt-ltb (length v.past.history) n (rw is at less) in
      λ a ds. rw (below, written, none) refl

  -- or the others are taken back
  pub gone_so_far : (made : ℕ) (r : Result (Unit {0}) E) → made ≡ length v.past.history → (made < n → ⊥)
      → OnOk r ((a : Ahead) (ds : List Declaration) → answer (place w a ds) text ≡ unmade_at (place v a ds) (made - n)) → OnOk r ((a : Ahead) (ds : List Declaration) → answer (place w a ds) text ≡ gone_to (place v a ds) n)
  gone_so_far made (Err refused) is more back = tt
  gone_so_far made (Ok told) is more back =
      let near : nat_lt (length v.past.history) n ≡ false = lt_false (length v.past.history) n (rw is at more) in
      λ a ds. rw near (rw is at back a ds)

-- a session without its last steps has the words of a layout, where it had them
pub unmade_shape : (v : SessionValue) (n : ℕ) → KeepsShape v (unmade v n)
unmade_shape v n = λ names h. record { now = run_shape (take (length v.past.history - n) v.past.history) v.past.opening ∙ h.opening; opening = h.opening }

pub back_keeps : (v w : SessionValue) (n : ℕ) (r : Result (Unit {0}) SessionFault) → OnOk r (w ≡ unmade v n) → OnErr r (w ≡ v) → KeepsShape v w
back_keeps v w n (Ok done) back same = subst (λ (x : SessionValue). KeepsShape v x) (sym back) (unmade_shape v n)
back_keeps v w n (Err fault) back same = subst (λ (x : SessionValue). KeepsShape v x) (sym same) (λ names h. h)

-- what was found of all runs is told, and the run that fails is ahead
pub checked_so : (v : SessionValue) (a b : Ahead) (ds es : List Declaration) (found : Found) (text : List ℕ) → b ≡ ahead_found a found → es ≡ ds → text ≡ found_text found
    → answer (place v b es) text ≡ checked_at (place v a ds) found
checked_so v a b ds es found text loaded same written = rw (loaded, same, written) refl

-- ---- what is told

-- the answer to a line is told
pub replied : (Went : List Event → Type 0) (x : Answer) (q : Place) (may : Bool) (text bytes : List ℕ) (r : Result Bool TalkFault) → answer q text ≡ x → bytes ≡ text
    → TellsMore Went bytes may r → Replies Went x q may r
replied Went x q may text bytes (Ok more) is written (went, so) =
    (subst (λ (s : List ℕ). Went (told s)) (written ∙ ap (λ (z : Answer). z.text) is) went, ap (λ (z : Answer). z.place) is, so)
replied Went x q may text bytes (Err talk_faults.WriteFailed) is written (n, went) =
    ((n, subst (λ (s : List ℕ). Went (told (take n s) ++ WriteFailed ∷ [])) (written ∙ ap (λ (z : Answer). z.text) is) went), ap (λ (z : Answer). z.place) is)
replied Went x q may text bytes (Err talk_faults.ReadFailed) is written never = absurd never
replied Went x q may text bytes (Err talk_faults.TooLong) is written never = absurd never
replied Went x q may text bytes (Err talk_faults.NoMemory) is written never = absurd never

-- it is the answer to the line that asks this, by what was found for it
answers_by : (lined : LinedObject) (Went : List Event → Type 0) (p q : Place) (is_fed : Bool) (line : List ℕ) (asked : Result Asked LineFault) (found : Found) (r : Result Bool TalkFault)
    → asked_of lined.object.layout line ≡ asked → Replies Went (answered lined p line asked found) q (may_go_on is_fed line) r → AnswersBy (partner lined) Went p q is_fed line found r
answers_by lined Went p q is_fed line asked found (Ok more) is (went, next, so) =
    let e : answered lined p line asked found ≡ answer_to lined p line found = ap (λ (x : Result Asked LineFault). answered lined p line x found) (sym is) in
    (subst (λ (x : Answer). Went (told x.text)) e went, next ∙ ap (λ (x : Answer). x.place) e, so)
answers_by lined Went p q is_fed line asked found (Err talk_faults.WriteFailed) is ((n, went), next) =
    let e : answered lined p line asked found ≡ answer_to lined p line found = ap (λ (x : Result Asked LineFault). answered lined p line x found) (sym is) in
    ((n, subst (λ (x : Answer). Went (told (take n x.text) ++ WriteFailed ∷ [])) e went), next ∙ ap (λ (x : Answer). x.place) e)
answers_by lined Went p q is_fed line asked found (Err talk_faults.ReadFailed) is never = absurd never
answers_by lined Went p q is_fed line asked found (Err talk_faults.TooLong) is never = absurd never
answers_by lined Went p q is_fed line asked found (Err talk_faults.NoMemory) is nothing = nothing

pub answers_line : (lined : LinedObject) (Went : List Event → Type 0) (p q : Place) (is_fed : Bool) (line : List ℕ) (asked : Result Asked LineFault) (found : Found) (r : Result Bool TalkFault)
    → asked_of lined.object.layout line ≡ asked → MayFind lined p asked found → Replies Went (answered lined p line asked found) q (may_go_on is_fed line) r
    → Answers (partner lined) Went p q is_fed line r
answers_line lined Went p q is_fed line asked found r is may replies = record {
  found = found;
  may = subst (λ (x : Result Asked LineFault). MayFind lined p x found) (sym is) may;
  answers = answers_by lined Went p q is_fed line asked found r is replies;
}
