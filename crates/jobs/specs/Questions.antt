-- The questions of a program, and the answer to each.
-- Read it from `IsAnswer`, and then what a question asks of every state (`kept_formula`) and when it is asked of some (`IsAskedOfSome`).
use Rattle.std.specs.Prelude.{⊤, ◌≡◌, ◌⊎◌, ℕ, Bool, true, false, not, ◌&&◌, if◌then◌else◌, Option, Some, None, option_copied, option_map, Result, Ok, Err, List, [], ◌∷◌, ◌++◌, All, bytes_eq, map, IfSome}
use Rattle.std.specs.List.{filter}
use Rattle.std.specs.Option.{option_map_or}
use Rattle.lines_layout.specs.Names.{Text}
use Rattle.machine.specs.State.{State}
use Rattle.conditions.specs.Formulas.{Formula, And, Not}
use Rattle.conditions.specs.Statements.{stated}
use Rattle.images.specs.Images.{IsImage}
use Rattle.images.specs.Truth.{holds_on}
use Rattle.questions.specs.Questions.{NamedQuestion}
use Rattle.questions.specs.declared.question.Place.{Place}
use Rattle.questions.specs.declared.question.Place.TheVariants as places
use Rattle.explore.specs.declared.fault.ExploreFault.{ExploreFault}
use Rattle.explore.specs.declared.fault.ExploreFault.TheVariants as runs
use Rattle.explore.specs.declared.question.Question.{Question}
use Rattle.explore.specs.declared.verdict.Failure.{Failure}
use Rattle.explore.specs.declared.verdict.Verdict.{Verdict}
use Rattle.explore.specs.declared.verdict.Verdict.TheVariants as verdicts
use Rattle.explore.specs.Ends.{IsEndOf, IsTrueAtEnds, is_met}
use Rattle.explore.specs.Findings.{Findings}
use Rattle.explore.specs.Questions.{AreFindings, FailsBy, IsVerdict}
use Rattle.explore.specs.Reachable.{IsAlwaysKept, IsReachable}
use Rattle.commands.specs.declared.fault.Refused.{Refused}
use Rattle.commands.specs.declared.fault.Refused.TheVariants.{Usage}
use Rattle.commands.specs.declared.jobs.CheckOptions.{CheckOptions}
use Rattle.commands.specs.declared.jobs.QuestionOptions.{QuestionOptions}
use Rattle.commands.specs.Programs.{questioned_work}
use Rattle.commands.specs.Works.{◌>>=◌, Work, done, test}
use Rattle.jobs.specs.declared.explained.Explained.{Explained}
use Rattle.jobs.specs.declared.question_answer.Answered.{Answered}
use Rattle.jobs.specs.declared.question_answer.QuestionAnswer.{QuestionAnswer}
use Rattle.jobs.specs.declared.question_answer.QuestionAnswer.TheVariants as answers
use Rattle.jobs.specs.declared.questions_joined.Together.{Together}
use Rattle.jobs.specs.declared.start.Start.{Start}
use Rattle.jobs.specs.CheckReports.{Explains}
use Rattle.jobs.specs.Starts.{given_work, no_condition, start_on}

-- ---- what is asked

-- What must be so of every state: that the condition is true; of a question of some state, that it is not true.
abbrev pub kept_formula : NamedQuestion → Formula
kept_formula q = if q.every then stated true q.condition else Not (stated true q.condition)

-- whether the runs crash that a question is asked of: those to an end before the first crash do not
abbrev pub crashes_to : Place → Bool → Bool
crashes_to places.Crash crashes = crashes
crashes_to places.End crashes = false
crashes_to places.Recovery crashes = crashes

-- a formula as what is asked of all states of a place, where runs crash or do not
abbrev pub asked_at : Place → Bool → Formula → Question
asked_at places.Crash crashes f = record { crashes = crashes; all = Some f; ends = None; recovered = None; images = false }
asked_at places.End crashes f = record { crashes = crashes; all = None; ends = Some f; recovered = None; images = false }
asked_at places.Recovery crashes f = record { crashes = crashes; all = None; ends = None; recovered = Some f; images = false }

-- what is asked of all runs for a question
abbrev pub question_of : Bool → NamedQuestion → Question
question_of crashes q = asked_at q.place (crashes_to q.place crashes) (kept_formula q)

-- The same for the left side of a `->`: it is broken where some state has it true.
abbrev pub left_question : Bool → Formula → NamedQuestion → Question
left_question crashes left q = asked_at q.place (crashes_to q.place crashes) (Not (stated true left))

-- ---- the answer

-- A formula holds in every state of a place: in each image that a crash may leave of each state that runs reach, or at each end.
abbrev pub IsSoAt : Place → Bool → Formula → State → Type 0
IsSoAt places.Crash crashes f start = IsAlwaysKept crashes f start
IsSoAt places.End crashes f start = IsTrueAtEnds crashes false f start
IsSoAt places.Recovery crashes f start = IsTrueAtEnds crashes true f start

-- what a question asks is so in every state of its place
abbrev pub IsSoEverywhere : Bool → State → NamedQuestion → Type 0
IsSoEverywhere crashes start q = IsSoAt q.place (crashes_to q.place crashes) (kept_formula q) start

-- where a question of every state is asked: where its left side is true, if it has one
abbrev pub side_of : NamedQuestion → Option Formula
side_of q = if q.every then option_map (stated true) q.left else None

-- whether this is so of an image, if it is there
abbrev pub is_met_on : Option Formula → State → List ℕ → Bool
is_met_on side t image = option_map_or (λ f. holds_on t f image) side true

-- Some state of a place is such that the side holds there, if there is one.
abbrev pub IsAskedAt : Place → Bool → Option Formula → State → Type 0
IsAskedAt places.Crash crashes side start =
    (t : State) × (image : List ℕ) × IsReachable crashes start t × IsImage t image × (is_met_on side t image ≡ true)
IsAskedAt places.End crashes side start = (t : State) × IsEndOf crashes false start t × (is_met side t ≡ true)
IsAskedAt places.Recovery crashes side start = (t : State) × IsEndOf crashes true start t × (is_met side t ≡ true)

-- A question is asked of some state.
abbrev pub IsAskedOfSome : Bool → State → NamedQuestion → Type 0
IsAskedOfSome crashes start q = IsAskedAt q.place (crashes_to q.place crashes) (side_of q) start

-- A question is asked of these runs: one that is asked behind a crash, where runs crash.
abbrev pub IsAskedThere : Bool → NamedQuestion → Type 0
IsAskedThere crashes q = q.place ≡ places.Recovery → crashes ≡ true

-- This run leads to a state in which what the question asks of every state is not so, with these values.
abbrev pub IsBrokenBy : Bool → State → NamedQuestion → Failure → Type 0
IsBrokenBy crashes start q failure = FailsBy failure.asked (question_of crashes q) start failure.run failure.values

-- The answer to a question, of all runs from a state. Of every state it holds or fails; of some, a state is found or none is. It may be
-- asked of no state at all; and what is asked behind a crash is not asked where runs do not crash.
abbrev pub IsAnswer : Bool → State → NamedQuestion → QuestionAnswer → Type 0
IsAnswer crashes start q answers.Holds = (q.every ≡ true) × IsSoEverywhere crashes start q × IsAskedOfSome crashes start q
IsAnswer crashes start q (answers.Fails failure) = (q.every ≡ true) × IsBrokenBy crashes start q failure
IsAnswer crashes start q (answers.Found failure) = (q.every ≡ false) × IsBrokenBy crashes start q failure
IsAnswer crashes start q answers.Nowhere = (q.every ≡ false) × IsSoEverywhere crashes start q × IsAskedOfSome crashes start q
IsAnswer crashes start q answers.OfNoState = IsAskedThere crashes q × IsSoEverywhere crashes start q × (IsAskedOfSome crashes start q → ⊥)
IsAnswer crashes start q answers.NotAsked = (q.place ≡ places.Recovery) × (crashes ≡ false)

-- whether it is a good one
abbrev pub is_good : QuestionAnswer → Bool
is_good answers.Holds = true
is_good (answers.Fails failure) = false
is_good (answers.Found failure) = true
is_good answers.Nowhere = false
is_good answers.OfNoState = false
is_good answers.NotAsked = true

-- ---- the answer, explained

-- whether runs crash
abbrev pub may_crash : QuestionOptions → Bool
may_crash options = not options.before_crash

-- how the run of an answer is shown and explained: as that of a condition of `check`
abbrev pub run_options : QuestionOptions → CheckOptions
run_options options = record {
  all = None;
  ends = None;
  recovered = None;
  images = false;
  before_crash = options.before_crash;
  states = options.states;
  show = options.show;
  names = false;
  as_steps = false;
  explains_image = options.explains_image;
}

-- a start of which something else is asked
abbrev pub asking_of : Question → Start → Start
asking_of question start = record start { question = question }

-- This explains the run of an answer, if it has one, where it is asked why.
abbrev pub IsToldWhy : QuestionOptions → Start → NamedQuestion → Explained → QuestionAnswer → Type 0
IsToldWhy options start q told (answers.Fails failure) = Explains (run_options options) (asking_of (question_of (may_crash options) q) start) failure told
IsToldWhy options start q told (answers.Found failure) = Explains (run_options options) (asking_of (question_of (may_crash options) q) start) failure told
IsToldWhy options start q told _ = ⊤

-- A question has its answer, explained.
pub record IsAnswered (options : QuestionOptions) (start : Start) (answered : Answered) : Type 0 where
  pub answer : IsAnswer (may_crash options) start.machine answered.question answered.answer
  pub told : IsToldWhy options start answered.question answered.told answered.answer

-- It is not told of all runs what the answer is: of those that the question asks, or of those to its left side.
abbrev pub IsUntold : QuestionOptions → Start → NamedQuestion → ExploreFault → Type 0
IsUntold options start q fault =
    IsVerdict (question_of (may_crash options) q) start.machine options.states (Err fault)
    ⊎ ((left : Formula) × (q.left ≡ Some left) × IsVerdict (left_question (may_crash options) left q) start.machine options.states (Err fault))

-- a question is answered, or it is not told
abbrev pub IsToldOne : QuestionOptions → Start → NamedQuestion → Result Answered ExploreFault → Type 0
IsToldOne options start q (Ok answered) = (answered.question ≡ q) × IsAnswered options start answered
IsToldOne options start q (Err fault) = IsUntold options start q fault

-- ---- the parts of an answer

-- What is said of something: that it is so, or that it is not.
abbrev pub Tells : Bool → Type 0 → Type 0
Tells true Is = Is
Tells false Is = Is → ⊥

-- whether some run breaks what is asked
abbrev pub is_failure : Verdict → Bool
is_failure (verdicts.Holds found) = false
is_failure (verdicts.Fails failure) = true

-- It is said whether the left side of a question is true of some state, or why it is not told.
abbrev pub IsToldOfLeft : QuestionOptions → Start → NamedQuestion → Formula → Result Bool ExploreFault → Type 0
IsToldOfLeft options start q left (Ok met) = Tells met (IsAskedAt q.place (crashes_to q.place (may_crash options)) (Some (stated true left)) start.machine)
IsToldOfLeft options start q left (Err fault) = IsVerdict (left_question (may_crash options) left q) start.machine options.states (Err fault)

-- It is said whether a question is asked of some state, or why it is not told.
abbrev pub IsAskedSaid : QuestionOptions → Start → NamedQuestion → Result Bool ExploreFault → Type 0
IsAskedSaid options start q (Ok asked) = Tells asked (IsAskedOfSome (may_crash options) start.machine q)
IsAskedSaid options start q (Err fault) = IsUntold options start q fault

-- the answer where what is asked is so everywhere, by whether it is asked of every state, and whether of any
abbrev pub held_answer : Bool → Bool → QuestionAnswer
held_answer every false = answers.OfNoState
held_answer true true = answers.Holds
held_answer false true = answers.Nowhere

-- the answer where it is not, by a run
abbrev pub broken_answer : Bool → Failure → QuestionAnswer
broken_answer true failure = answers.Fails failure
broken_answer false failure = answers.Found failure

-- ---- questions that are asked together

abbrev pub is_place : Place → Place → Bool
is_place places.Crash places.Crash = true
is_place places.End places.End = true
is_place places.Recovery places.Recovery = true
is_place _ _ = false

-- whether a question is asked of every state of a place
abbrev pub is_of_every : Place → NamedQuestion → Bool
is_of_every place q = q.every && is_place place q.place

-- one more formula that is to be so
abbrev pub joined : Option Formula → Formula → Option Formula
joined None f = Some f
joined (Some before) f = Some (And before f)

-- the same of what a question asks, if it is asked of every state of a place
abbrev pub joined_by : Place → Option Formula → NamedQuestion → Option Formula
joined_by place before q = if is_of_every place q then joined before (stated true q.condition) else before

-- what questions ask of every state of a place, behind other formulas
abbrev pub joined_all : Place → Option Formula → List NamedQuestion → Option Formula
joined_all place before [] = before
joined_all place before (q ∷ questions) = joined_all place (joined_by place before q) questions

-- all that questions ask of every state of a place
abbrev pub kept_together : Place → List NamedQuestion → Option Formula
kept_together place questions = joined_all place None questions

-- what is asked of all runs for the questions of crashes, and of ends behind one
abbrev pub crash_question : Bool → List NamedQuestion → Question
crash_question crashes questions = record {
  crashes = crashes;
  all = kept_together places.Crash questions;
  ends = None;
  recovered = kept_together places.Recovery questions;
  images = false;
}

-- the same for those of ends before a crash
abbrev pub end_question : List NamedQuestion → Question
end_question questions = record { crashes = false; all = None; ends = kept_together places.End questions; recovered = None; images = false }

-- What a question asks is so of all runs, and this is found of them.
abbrev pub IsFoundOf : QuestionOptions → Start → NamedQuestion → Findings → Type 0
IsFoundOf options start q found =
    IsSoEverywhere (may_crash options) start.machine q
    × ((asked : Question) × (limit : ℕ) × (asked.crashes ≡ crashes_to q.place (may_crash options)) × AreFindings asked start.machine limit found)

-- What is found of all runs, if anything is, is found by what the questions of crashes, and of ends behind one, ask together.
abbrev pub AreOfCrashes : QuestionOptions → Start → List NamedQuestion → Option Findings → Type 0
AreOfCrashes options start questions found = IfSome found (AreFindings (crash_question (may_crash options) questions) start.machine options.states)

-- The same for those of ends before a crash.
abbrev pub AreOfEnds : QuestionOptions → Start → List NamedQuestion → Option Findings → Type 0
AreOfEnds options start questions found = IfSome found (AreFindings (end_question questions) start.machine options.states)

-- What is found for questions together is found of all runs by what they ask together.
pub record AreTogether (options : QuestionOptions) (start : Start) (questions : List NamedQuestion) (together : Together) : Type 0 where
  pub crashes : AreOfCrashes options start questions together.crashes
  pub ends : AreOfEnds options start questions together.ends

-- what is found together for questions of a place
abbrev pub found_at : Place → Together → Option Findings
found_at places.Crash together = together.crashes
found_at places.End together = together.ends
found_at places.Recovery together = together.crashes

-- What is found together is found of a question, if that is asked of every state.
abbrev pub HoldsTogether : QuestionOptions → Start → NamedQuestion → Together → Type 0
HoldsTogether options start q together =
    (found : Findings) → q.every ≡ true → IsAskedThere (may_crash options) q → found_at q.place together ≡ Some found → IsFoundOf options start q found

-- ---- all of them

-- These questions are answered, in their order.
abbrev pub AreAnswered : QuestionOptions → Start → List NamedQuestion → List Answered → Type 0
AreAnswered options start questions answered = (map (λ one. one.question) answered ≡ questions) × All (IsAnswered options start) answered

-- Those before one are answered, and that one is not told.
pub record IsFirstUntold (options : QuestionOptions) (start : Start) (questions : List NamedQuestion) (fault : ExploreFault) : Type 0 where
  pub before : List Answered
  pub one : NamedQuestion
  pub after : List NamedQuestion
  pub are : map (λ one. one.question) before ++ one ∷ after ≡ questions
  pub answered : All (IsAnswered options start) before
  pub untold : IsUntold options start one fault

-- All questions are answered, or the first that is not told has this fault; or memory runs out.
abbrev pub AreTold : QuestionOptions → Start → List NamedQuestion → Result (List Answered) ExploreFault → Type 0
AreTold options start questions (Ok answered) = AreAnswered options start questions answered
AreTold options start questions (Err fault) = (fault ≡ runs.NoMemory) ⊎ IsFirstUntold options start questions fault

-- ---- the beginning

-- What the questions of a program are asked of, and those that are asked.
pub record Asking : Type 0 where
  pub start : Start
  pub questions : List NamedQuestion

-- whether a question has this name
abbrev pub is_named : Text → NamedQuestion → Bool
is_named name q = bytes_eq q.name name

-- those of a name, of which there is to be one
abbrev pub if_any : List NamedQuestion → Result (List NamedQuestion) Refused
if_any [] = Err Usage
if_any (q ∷ others) = Ok (q ∷ others)

-- the questions that are asked: all of them, or that of a name
abbrev pub chosen : Option Text → List NamedQuestion → Result (List NamedQuestion) Refused
chosen None questions = Ok questions
chosen (Some name) questions = if_any (filter (is_named name) questions)

-- what `check` begins with, where it asks the questions of a program
abbrev pub asking_start : QuestionOptions → List ℕ → List ℕ → Work Asking
asking_start options program steps = do
  asked ← questioned_work program
  questions ← test (chosen (option_copied options.only) asked.questions)
  given ← given_work asked.lined.lines steps
  start ← start_on asked.lined.object (no_condition (may_crash options)) given
  done (record { start = start; questions = questions })
