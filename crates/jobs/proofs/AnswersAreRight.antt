-- The answer to a question, by what is told of all runs of which it is asked.
use Rattle.std.proofs.Common.{◌≡◌, ◌∙◌, ℕ, Bool, true, false, not, None, Some, Option, Result, Ok, Err, List, [], ◌∷◌, length, suc, ap, arith, inl, inr, refl, subst, sym}
use Rattle.std.specs.Prelude.{◌==◌}
use Rattle.machine.specs.declared.step.Step.{Step}
use Rattle.machine.specs.State.{State}
use Rattle.machine.specs.Steps.{run_of}
use Rattle.conditions.specs.Formulas.{Formula, Not}
use Rattle.conditions.specs.Statements.{stated}
use Rattle.images.specs.Truth.{holds_on}
use Rattle.questions.specs.Questions.{NamedQuestion}
use Rattle.questions.specs.declared.question.Place.{Place}
use Rattle.questions.specs.declared.question.Place.TheVariants as places
use Rattle.explore.specs.declared.fault.ExploreFault.{ExploreFault}
use Rattle.explore.specs.declared.question.Question.{Question}
use Rattle.explore.specs.declared.verdict.Asked.{Asked}
use Rattle.explore.specs.declared.verdict.Asked.TheVariants.{All as AskedAll, Ends, Recovered}
use Rattle.explore.specs.declared.verdict.Failure.{Failure}
use Rattle.explore.specs.declared.verdict.Verdict.{Verdict}
use Rattle.explore.specs.declared.verdict.Verdict.TheVariants as verdicts
use Rattle.explore.specs.declared.fault.ExploreFault.TheVariants.{NoMemory}
use Rattle.explore.specs.Ends.{IsEndOf, holds_at}
use Rattle.explore.specs.Findings.{Findings}
use Rattle.explore.specs.Outcomes.{AreOutcomes, outcome_of}
use Rattle.explore.specs.Questions.{AreFindings, FailsBy, IsAnswered, IsBroken, IsFalseEnd, IsVerdict}
use Rattle.commands.specs.declared.jobs.QuestionOptions.{QuestionOptions}
use Rattle.jobs.specs.declared.explained.Explained.{Explained}
use Rattle.jobs.specs.declared.question_answer.Answered.{Answered}
use Rattle.jobs.specs.declared.question_answer.QuestionAnswer.{QuestionAnswer}
use Rattle.jobs.specs.declared.question_answer.QuestionAnswer.TheVariants as answers
use Rattle.jobs.specs.declared.start.Start.{Start}
use Rattle.jobs.specs.CheckReports.{Explains}
use Rattle.jobs.specs.Questions.{asked_at, asking_of, broken_answer, crashes_to, held_answer, is_failure, kept_formula, left_question, may_crash, question_of, run_options, side_of, IsAskedAt, IsAskedOfSome, IsAskedSaid, IsSoAt, IsToldOfLeft, IsToldOne, Tells}
use Rattle.jobs.specs.Questions as asking
use Rattle.jobs.proofs.ImagesAreExplained.{now_is_image}
use Rattle.images.specs.Images.{pending_of}
use Rattle.pending_images.specs.Images.{image_now}

-- ---- whether there is a state of a place

abbrev IsThere : Bool → Bool → State → Type 0
IsThere crashes recovered start = (t : State) × IsEndOf crashes recovered start t × (true ≡ true)

some_end : (crashes recovered : Bool) (start : State) (outcome : List ℕ) (others : List (List ℕ)) → AreOutcomes crashes recovered start (outcome ∷ others) → IsThere crashes recovered start
some_end crashes recovered start outcome others are =
    let end = (are.exact outcome).0 (0, omega arith, refl) in
    (end.0, end.1, refl)

no_end : (crashes recovered : Bool) (start : State) → AreOutcomes crashes recovered start [] → IsThere crashes recovered start → ⊥
no_end crashes recovered start are there =
    let found = (are.exact (outcome_of there.0)).1 (there.0, there.1, refl) in
    absurd (omega (arith, found.1))

-- whether there are any
abbrev pub is_any : List (List ℕ) → Bool
is_any [] = false
is_any (end ∷ ends) = true

any_by_length : (ends : List (List ℕ)) → is_any ends ≡ not (length ends == 0)
any_by_length [] = refl
any_by_length (end ∷ ends) = let more : (suc (length ends) == 0) ≡ false = search arith in rw more refl

ends_told : (crashes recovered : Bool) (start : State) (ends : List (List ℕ)) → AreOutcomes crashes recovered start ends → Tells (is_any ends) (IsThere crashes recovered start)
ends_told crashes recovered start [] are = no_end crashes recovered start are
ends_told crashes recovered start (outcome ∷ others) are = some_end crashes recovered start outcome others are

-- the state from which runs start is one of them
pub start_is_there : (crashes : Bool) (start : State) → IsAskedAt places.Crash crashes None start
start_is_there crashes start = (start, image_now (pending_of start), ([], record { accepted = refl; leads = refl; crashing = λ is. absurd cc }), now_is_image start, refl)

-- and so is an end, where some are listed
told_by_length : (crashes recovered : Bool) (start : State) (ends listed : List (List ℕ)) (none : Bool) → AreOutcomes crashes recovered start ends → listed ≡ ends → none ≡ (length listed == 0)
    → Tells (not none) (IsThere crashes recovered start)
told_by_length crashes recovered start ends listed none are is by =
    let all = subst (AreOutcomes crashes recovered start) (sym is) are in
    let whole : is_any listed ≡ not none = any_by_length listed ∙ ap not (sym by) in
    subst (λ (b : Bool). Tells b (IsThere crashes recovered start)) whole (ends_told crashes recovered start listed all)

pub end_told : (question : Question) (start : State) (limit : ℕ) (found : Findings) (listed : List (List ℕ)) (none : Bool) → AreFindings question start limit found → listed ≡ found.ends
    → none ≡ (length listed == 0) → Tells (not none) (IsAskedAt places.End question.crashes None start)
end_told question start limit found listed none are is by = told_by_length question.crashes false start found.ends listed none are.ends is by

pub recovery_told : (question : Question) (start : State) (limit : ℕ) (found : Findings) (listed : List (List ℕ)) (none : Bool) → AreFindings question start limit found
    → listed ≡ found.recovered → none ≡ (length listed == 0) → Tells (not none) (IsAskedAt places.Recovery question.crashes None start)
recovery_told question start limit found listed none are is by = told_by_length question.crashes true start found.recovered listed none are.recovered is by

-- what is told of a place that is this one
pub at_place : (place same : Place) (met : Bool) (crashes : Bool) (start : State) → place ≡ same → Tells met (IsAskedAt same crashes None start) → Tells met (IsAskedAt place crashes None start)
at_place place same met crashes start is told = subst (λ (p : Place). Tells met (IsAskedAt p crashes None start)) (sym is) told

-- ---- a left side

-- what is not denied
affirmed : (b : Bool) → not (not b) ≡ true → b ≡ true
affirmed true e = refl
affirmed false e = absurd cc

denied : (b : Bool) → not b ≡ true → b ≡ true → ⊥
denied true e is = cc
denied false e is = cc

falsified : (b : Bool) → not b ≡ false → b ≡ true
falsified true e = refl
falsified false e = absurd cc

-- the condition that is asked
said : (f condition : Formula) → ◌≡◌ {A = Option Formula} (Some f) (Some condition) → f ≡ condition
said f condition e = cc

found_on : (question : Question) (f condition : Formula) (start : State) (run : List Step) (values : List ℕ) → Not f ≡ condition → IsBroken question condition start run values
    → IsAskedAt places.Crash question.crashes (Some f) start
found_on question f condition start run values is broken =
    let t = (run_of run start).state in
    let false_there : not (holds_on t (Not f) values) ≡ true = subst (λ (c : Formula). not (holds_on t c values) ≡ true) (sym is) broken.least.1 in
    (t, values, (run, broken.is_run), broken.least.0, affirmed (holds_on t f values) false_there)

found_end : (crashes recovered : Bool) (f condition : Formula) (start : State) (run : List Step) (values : List ℕ) → Not f ≡ condition → IsFalseEnd crashes recovered condition start run values
    → (t : State) × IsEndOf crashes recovered start t × (holds_at f t ≡ true)
found_end crashes recovered f condition start run values is broken =
    let t = (run_of run start).state in
    let false_there : not (holds_at f t) ≡ false = subst (λ (c : Formula). holds_at c t ≡ false) (sym is) broken.false_there in
    (t, broken.end, falsified (holds_at f t) false_there)

pub left_is_met : (asked : Asked) (place : Place) (crashes : Bool) (f : Formula) (start : State) (run : List Step) (values : List ℕ)
    → FailsBy asked (asked_at place crashes (Not f)) start run values → IsAskedAt place crashes (Some f) start
left_is_met AskedAll places.Crash crashes f start run values (condition, is, broken) = found_on (asked_at places.Crash crashes (Not f)) f condition start run values (said (Not f) condition is) broken
left_is_met AskedAll places.End crashes f start run values (condition, is, broken) = absurd cc
left_is_met AskedAll places.Recovery crashes f start run values (condition, is, broken) = absurd cc
left_is_met Ends places.Crash crashes f start run values (condition, is, broken) = absurd cc
left_is_met Ends places.End crashes f start run values (condition, is, broken) = found_end crashes false f condition start run values (said (Not f) condition is) broken
left_is_met Ends places.Recovery crashes f start run values (condition, is, broken) = absurd cc
left_is_met Recovered places.Crash crashes f start run values (condition, is, broken) = absurd cc
left_is_met Recovered places.End crashes f start run values (condition, is, broken) = absurd cc
left_is_met Recovered places.Recovery crashes f start run values (condition, is, broken) = found_end crashes true f condition start run values (said (Not f) condition is) broken

pub left_is_not_met : (place : Place) (crashes : Bool) (f : Formula) (start : State) → IsAnswered (asked_at place crashes (Not f)) start → IsAskedAt place crashes (Some f) start → ⊥
left_is_not_met places.Crash crashes f start answered (t, image, reached, is, so) = denied (holds_on t f image) (answered.all (Not f) refl t reached image is) so
left_is_not_met places.End crashes f start answered (t, end, so) = denied (holds_at f t) (answered.ends (Not f) refl t end) so
left_is_not_met places.Recovery crashes f start answered (t, end, so) = denied (holds_at f t) (answered.recovered (Not f) refl t end) so

failing : (place : Place) (crashes : Bool) (f : Formula) (start : State) (limit : ℕ) (verdict : Verdict) → IsVerdict (asked_at place crashes (Not f)) start limit (Ok verdict)
    → Tells (is_failure verdict) (IsAskedAt place crashes (Some f) start)
failing place crashes f start limit (verdicts.Holds found) is = left_is_not_met place crashes f start is.answered
failing place crashes f start limit (verdicts.Fails failure) is = left_is_met failure.asked place crashes f start failure.run failure.values is

pub left_told : (options : QuestionOptions) (start : Start) (q : NamedQuestion) (left : Formula) (asked : Question) (verdict : Verdict) (met : Bool) → asked ≡ left_question (may_crash options) left q
    → met ≡ is_failure verdict → IsVerdict asked start.machine options.states (Ok verdict) → IsToldOfLeft options start q left (Ok met)
left_told options start q left asked verdict met asks by is =
    let right = subst (λ (question : Question). IsVerdict question start.machine options.states (Ok verdict)) asks is in
    subst (λ (b : Bool). IsToldOfLeft options start q left (Ok b)) (sym by)
    (failing q.place (crashes_to q.place (may_crash options)) (stated true left) start.machine options.states verdict right)

-- ---- whether a question is asked of some state

pub asked_by_left : (options : QuestionOptions) (start : Start) (q : NamedQuestion) (left : Formula) (result : Result Bool ExploreFault) → q.left ≡ Some left → q.every ≡ true
    → IsToldOfLeft options start q left result → IsAskedSaid options start q result
asked_by_left options start q left (Ok met) has every told =
    let side : side_of q ≡ Some (stated true left) = rw (every, has) refl in
    subst (λ (s : Option Formula). Tells met (IsAskedAt q.place (crashes_to q.place (may_crash options)) s start.machine)) (sym side) told
asked_by_left options start q left (Err fault) has every told = inr (left, has, told)

-- whether the runs crash
asks_of : (place : Place) (crashes : Bool) (f : Formula) → (asked_at place crashes f).crashes ≡ crashes
asks_of places.Crash crashes f = refl
asks_of places.End crashes f = refl
asks_of places.Recovery crashes f = refl

pub asked_by_place : (options : QuestionOptions) (start : Start) (q : NamedQuestion) (asked : Question) (met : Bool) → side_of q ≡ None
    → asked.crashes ≡ crashes_to q.place (may_crash options) → Tells met (IsAskedAt q.place asked.crashes None start.machine) → IsAskedSaid options start q (Ok met)
asked_by_place options start q asked met none crashing told =
    let crashes = crashes_to q.place (may_crash options) in
    subst (λ (s : Option Formula). Tells met (IsAskedAt q.place crashes s start.machine)) (sym none)
    (subst (λ (c : Bool). Tells met (IsAskedAt q.place c None start.machine)) crashing told)

pub no_side_without_left : (q : NamedQuestion) → q.left ≡ None → side_of q ≡ None
no_side_without_left q none = no_side q.every q.left none
  where
    no_side : (every : Bool) (left : Option Formula) → left ≡ None → side_of (record q { every = every; left = left }) ≡ None
    no_side true left none = rw none refl
    no_side false left none = refl

pub no_side_of_some : (q : NamedQuestion) → q.every ≡ false → side_of q ≡ None
no_side_of_some q some = rw some refl

-- ---- the answer

so_everywhere : (place : Place) (crashes : Bool) (f : Formula) (start : State) → IsAnswered (asked_at place crashes f) start → IsSoAt place crashes f start
so_everywhere places.Crash crashes f start answered = answered.all f refl
so_everywhere places.End crashes f start answered = answered.ends f refl
so_everywhere places.Recovery crashes f start answered = answered.recovered f refl

held_so : (crashes : Bool) (start : State) (q : NamedQuestion) (every asked : Bool) → q.every ≡ every → asking.IsAskedThere crashes q → asking.IsSoEverywhere crashes start q
    → Tells asked (IsAskedOfSome crashes start q) → asking.IsAnswer crashes start q (held_answer every asked)
held_so crashes start q every false is there so told = (there, so, told)
held_so crashes start q true true is there so told = (is, so, told)
held_so crashes start q false true is there so told = (is, so, told)

held_told : (options : QuestionOptions) (start : Start) (q : NamedQuestion) (told : Explained) (every asked : Bool) → asking.IsToldWhy options start q told (held_answer every asked)
held_told options start q told every false = tt
held_told options start q told true true = tt
held_told options start q told false true = tt

-- a question with this answer, explained
pub has_answer : (options : QuestionOptions) (start : Start) (q : NamedQuestion) (answer : QuestionAnswer) (one : Answered) → one.question ≡ q → one.answer ≡ answer
    → asking.IsAnswer (may_crash options) start.machine q answer → asking.IsToldWhy options start q one.told answer → IsToldOne options start q (Ok one)
has_answer options start q answer one is same right told = (
  is,
  record {
    answer = rw (is, same) right;
    told = rw (is, same) told;
  },
)

pub held_is_told : (options : QuestionOptions) (start : Start) (q : NamedQuestion) (asked : Bool) (one : Answered) → one.question ≡ q
    → one.answer ≡ held_answer q.every asked → Tells asked (IsAskedOfSome (may_crash options) start.machine q)
    → asking.IsAskedThere (may_crash options) q → asking.IsSoEverywhere (may_crash options) start.machine q → IsToldOne options start q (Ok one)
held_is_told options start q asked one is same told there so =
    has_answer options start q (held_answer q.every asked) one is same
    (held_so (may_crash options) start.machine q q.every asked refl there so told) (held_told options start q one.told q.every asked)

broken_so : (crashes : Bool) (start : State) (q : NamedQuestion) (failure : Failure) (every : Bool) → q.every ≡ every → asking.IsBrokenBy crashes start q failure
    → asking.IsAnswer crashes start q (broken_answer every failure)
broken_so crashes start q failure true is broken = (is, broken)
broken_so crashes start q failure false is broken = (is, broken)

broken_told : (options : QuestionOptions) (start : Start) (q : NamedQuestion) (failure : Failure) (told : Explained) (every : Bool)
    → Explains (run_options options) (asking_of (question_of (may_crash options) q) start) failure told → asking.IsToldWhy options start q told (broken_answer every failure)
broken_told options start q failure told true is = is
broken_told options start q failure told false is = is

pub broken_is_told : (options : QuestionOptions) (start : Start) (q : NamedQuestion) (failure : Failure) (one : Answered) → one.question ≡ q → one.answer ≡ broken_answer q.every failure
    → Explains (run_options options) start failure one.told → start.question ≡ question_of (may_crash options) q
    → FailsBy failure.asked start.question start.machine failure.run failure.values → IsToldOne options start q (Ok one)
broken_is_told options start q failure one is same told asks fails =
    let broken : asking.IsBrokenBy (may_crash options) start.machine q failure = subst (λ (question : Question). FailsBy failure.asked question start.machine failure.run failure.values) asks fails in
    let explained = subst (λ (question : Question). Explains (run_options options) (asking_of question start) failure one.told) asks told in
    has_answer options start q (broken_answer q.every failure) one is same (broken_so (may_crash options) start.machine q failure q.every refl broken)
    (broken_told options start q failure one.told q.every explained)

-- ---- what is not told

pub unsaid : (options : QuestionOptions) (start : Start) (q : NamedQuestion) (fault : ExploreFault) → IsAskedSaid options start q (Err fault) → IsToldOne options start q (Err fault)
unsaid options start q fault untold = untold

pub no_memory : (options : QuestionOptions) (start : Start) (q : NamedQuestion) → IsToldOne options start q (Err NoMemory)
no_memory options start q = inl tt

pub untold_by : (options : QuestionOptions) (start : Start) (q : NamedQuestion) (fault : ExploreFault) → start.question ≡ question_of (may_crash options) q
    → IsVerdict start.question start.machine options.states (Err fault) → IsToldOne options start q (Err fault)
untold_by options start q fault asks is = inl (subst (λ (question : Question). IsVerdict question start.machine options.states (Err fault)) asks is)

-- ---- by a verdict

pub holds_is_told : (options : QuestionOptions) (start : Start) (q : NamedQuestion) (found : Findings) (result : Result Answered ExploreFault) → start.question ≡ question_of (may_crash options) q
    → IsVerdict start.question start.machine options.states (Ok (verdicts.Holds found))
    → asking.IsAskedThere (may_crash options) q
    → (asking.IsAskedThere (may_crash options) q → asking.IsFoundOf options start q found → IsToldOne options start q result)
    → IsToldOne options start q result
holds_is_told options start q found result asks is there told =
    let crashes = crashes_to q.place (may_crash options) in
    let are = subst (λ (question : Question). AreFindings question start.machine options.states found) asks is in
    told there
    (so_everywhere q.place crashes (kept_formula q) start.machine are.answered, (question_of (may_crash options) q, options.states, asks_of q.place crashes (kept_formula q), are))

pub fails_is_told : (options : QuestionOptions) (start : Start) (q : NamedQuestion) (failure : Failure) (result : Result Answered ExploreFault) → start.question ≡ question_of (may_crash options) q
    → IsVerdict start.question start.machine options.states (Ok (verdicts.Fails failure))
    → (start.question ≡ question_of (may_crash options) q → FailsBy failure.asked start.question start.machine failure.run failure.values → IsToldOne options start q result)
    → IsToldOne options start q result
fails_is_told options start q failure result asks is told = told asks is

-- a question behind a crash, where runs do not crash
pub not_asked : (options : QuestionOptions) (start : Start) (q : NamedQuestion) (one : Answered) → one.question ≡ q → one.answer ≡ answers.NotAsked → q.place ≡ places.Recovery
    → may_crash options ≡ false → IsToldOne options start q (Ok one)
not_asked options start q one is same place crashes = has_answer options start q answers.NotAsked one is same (place, crashes) tt
