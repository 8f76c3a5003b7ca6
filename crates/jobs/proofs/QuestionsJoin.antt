-- What holds of questions together holds of each.
use Rattle.std.proofs.Common.{◌≡◌, ◌++◌, Bool, true, false, ◌&&◌, None, Some, Option, List, [], ◌∷◌, refl, subst, sym, inl, inr}
use Rattle.std.specs.Prelude.{IfSome, ⊤}
use Rattle.std.proofs.lemmas.Bool.{cases_Bool}
use Rattle.machine.specs.State.{State}
use Rattle.conditions.specs.Formulas.{Formula, And}
use Rattle.conditions.specs.Statements.{stated}
use Rattle.images.specs.Truth.{holds_on}
use Rattle.questions.specs.Questions.{NamedQuestion}
use Rattle.questions.specs.declared.question.Place.{Place}
use Rattle.questions.specs.declared.question.Place.TheVariants as places
use Rattle.explore.specs.Ends.{holds_at}
use Rattle.explore.specs.Findings.{Findings}
use Rattle.explore.specs.Questions.{AreFindings}
use Rattle.commands.specs.declared.jobs.QuestionOptions.{QuestionOptions}
use Rattle.jobs.specs.declared.questions_joined.Together.{Together}
use Rattle.jobs.specs.declared.start.Start.{Start}
use Rattle.jobs.specs.Questions.{asking_of, crash_question, end_question, is_of_every, joined, joined_all, joined_by, kept_together, may_crash, AreTogether, HoldsTogether, IsSoAt}

-- ---- one after another

pub no_more : (place : Place) (before : Option Formula) (questions : List NamedQuestion) → questions ≡ [] → joined_all place before questions ≡ before
no_more place before questions e = rw e refl

pub one_more : (place : Place) (before : Option Formula) (q : NamedQuestion) (questions rest : List NamedQuestion) → questions ≡ q ∷ rest
    → joined_all place (joined_by place before q) rest ≡ joined_all place before questions
one_more place before q questions rest e = rw e refl

pub ruleset join_steps = (no_more, one_more)

-- ---- each of them

both_true : (a b : Bool) → (a && b) ≡ true → (a ≡ true) × (b ≡ true)
both_true true b e = (refl, e)
both_true false b e = absurd cc

each_so : (place : Place) (crashes : Bool) (f g : Formula) (start : State) → IsSoAt place crashes (And f g) start → IsSoAt place crashes f start × IsSoAt place crashes g start
each_so places.Crash crashes f g start so =
    (λ t reached image is. (both_true (holds_on t f image) (holds_on t g image) (so t reached image is)).0, λ t reached image is. (both_true (holds_on t f image) (holds_on t g image) (so t reached image is)).1)
each_so places.End crashes f g start so = (λ t end. (both_true (holds_at f t) (holds_at g t) (so t end)).0, λ t end. (both_true (holds_at f t) (holds_at g t) (so t end)).1)
each_so places.Recovery crashes f g start so = (λ t end. (both_true (holds_at f t) (holds_at g t) (so t end)).0, λ t end. (both_true (holds_at f t) (holds_at g t) (so t end)).1)

-- what is asked is so, where something is
abbrev Holds : Place → Bool → State → Option Formula → Type 0
Holds place crashes start None = ⊤
Holds place crashes start (Some f) = IsSoAt place crashes f start

before_one : (place : Place) (crashes : Bool) (start : State) (before : Option Formula) (f : Formula) → Holds place crashes start (joined before f) → Holds place crashes start before
before_one place crashes start None f so = tt
before_one place crashes start (Some before) f so = (each_so place crashes before f start so).0

this_one : (place : Place) (crashes : Bool) (start : State) (before : Option Formula) (f : Formula) → Holds place crashes start (joined before f) → IsSoAt place crashes f start
this_one place crashes start None f so = so
this_one place crashes start (Some before) f so = (each_so place crashes before f start so).1

before_by : (place : Place) (crashes : Bool) (start : State) (before : Option Formula) (q : NamedQuestion) → Holds place crashes start (joined_by place before q)
    → Holds place crashes start before
before_by place crashes start before q so = elim (cases_Bool (is_of_every place q)) [
  | inl is ↦ before_one place crashes start before (stated true q.condition) (rw is at so)
  | inr not_is ↦ rw not_is at so
]

before_all : (place : Place) (crashes : Bool) (start : State) (before : Option Formula) (questions : List NamedQuestion) → Holds place crashes start (joined_all place before questions)
    → Holds place crashes start before
before_all place crashes start before [] so = so
before_all place crashes start before (q ∷ questions) so = before_by place crashes start before q (before_all place crashes start (joined_by place before q) questions so)

one_of_all : (place : Place) (crashes : Bool) (start : State) (before : Option Formula) (earlier : List NamedQuestion) (q : NamedQuestion) (rest : List NamedQuestion)
    → is_of_every place q ≡ true → Holds place crashes start (joined_all place before (earlier ++ q ∷ rest)) → IsSoAt place crashes (stated true q.condition) start
one_of_all place crashes start before [] q rest is so =
    this_one place crashes start before (stated true q.condition) (rw is at (before_all place crashes start (joined_by place before q) rest so))
one_of_all place crashes start before (other ∷ earlier) q rest is so = one_of_all place crashes start (joined_by place before other) earlier q rest is so

holds_if : (place : Place) (crashes : Bool) (start : State) (all : Option Formula) → ((f : Formula) → all ≡ Some f → IsSoAt place crashes f start) → Holds place crashes start all
holds_if place crashes start None so = tt
holds_if place crashes start (Some f) so = so f refl

-- ---- by what is found together

found_there : (P : Findings → Type 0) (all : Option Findings) (found : Findings) → IfSome all P → all ≡ Some found → P found
found_there P all found has is = subst (λ (it : Option Findings). IfSome it P) is has

one_found : (options : QuestionOptions) (start : Start) (questions : List NamedQuestion) (together : Together) (earlier : List NamedQuestion) (q : NamedQuestion) (rest : List NamedQuestion)
    → AreTogether options start questions together → questions ≡ earlier ++ q ∷ rest → (place : Place) → q.place ≡ place → HoldsTogether options start q together
one_found options start questions together earlier q rest are is places.Crash at found every there has =
    let found_all = found_there (AreFindings (crash_question (may_crash options) questions) start.machine options.states) together.crashes found are.crashes (rw at at has) in
    let all = holds_if places.Crash (may_crash options) start.machine (kept_together places.Crash questions) found_all.answered.all in
    let of_every : is_of_every places.Crash q ≡ true = rw (every, at) refl in
    let so = one_of_all places.Crash (may_crash options) start.machine None earlier q rest of_every
    (subst (λ (qs : List NamedQuestion). Holds places.Crash (may_crash options) start.machine (kept_together places.Crash qs)) is all) in
    (rw (at, every) so, (crash_question (may_crash options) questions, options.states, rw at refl, found_all))
one_found options start questions together earlier q rest are is places.End at found every there has =
    let found_all = found_there (AreFindings (end_question questions) start.machine options.states) together.ends found are.ends (rw at at has) in
    let all = holds_if places.End false start.machine (kept_together places.End questions) found_all.answered.ends in
    let of_every : is_of_every places.End q ≡ true = rw (every, at) refl in
    let so = one_of_all places.End false start.machine None earlier q rest of_every
    (subst (λ (qs : List NamedQuestion). Holds places.End false start.machine (kept_together places.End qs)) is all) in
    (rw (at, every) so, (end_question questions, options.states, rw at refl, found_all))
one_found options start questions together earlier q rest are is places.Recovery at found every there has =
    let found_all = found_there (AreFindings (crash_question (may_crash options) questions) start.machine options.states) together.crashes found are.crashes (rw at at has) in
    let all = holds_if places.Recovery (may_crash options) start.machine (kept_together places.Recovery questions) found_all.answered.recovered in
    let of_every : is_of_every places.Recovery q ≡ true = rw (every, at) refl in
    let so = one_of_all places.Recovery (may_crash options) start.machine None earlier q rest of_every
    (subst (λ (qs : List NamedQuestion). Holds places.Recovery (may_crash options) start.machine (kept_together places.Recovery qs)) is all) in
    (rw (at, every) so, (crash_question (may_crash options) questions, options.states, rw at refl, found_all))

pub is_found : (options : QuestionOptions) (start : Start) (questions : List NamedQuestion) (together : Together) (earlier : List NamedQuestion) (q : NamedQuestion) (rest : List NamedQuestion)
    → AreTogether options start questions together → earlier ++ q ∷ rest ≡ questions → HoldsTogether options start q together
is_found options start questions together earlier q rest are is = one_found options start questions together earlier q rest are (sym is) q.place refl

-- it does not depend on what the start asks
pub found_from : (options : QuestionOptions) (start now : Start) (q : NamedQuestion) (together : Together) → now ≡ asking_of now.question start → HoldsTogether options start q together
    → HoldsTogether options now q together
found_from options start now q together is holds = subst (λ (s : Start). HoldsTogether options s q together) (sym is) holds
