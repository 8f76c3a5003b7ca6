-- Questions are answered one after another, up to the first that is not told.
use Rattle.std.proofs.Common.{◌≡◌, ◌∙◌, ◌++◌, Result, Ok, Err, List, [], ◌∷◌, append_assoc, map, sym, ap, subst}
use Rattle.std.specs.Prelude.{All}
use Rattle.std.proofs.lemmas.List.{map-append}
use Rattle.std.proofs.lemmas.List.Elements.{All-append, All-cons, All-nil}
use Rattle.questions.specs.Questions.{NamedQuestion}
use Rattle.explore.specs.declared.fault.ExploreFault.{ExploreFault}
use Rattle.explore.specs.declared.question.Question.{Question}
use Rattle.commands.specs.declared.jobs.QuestionOptions.{QuestionOptions}
use Rattle.jobs.specs.declared.explained.Explained.{Explained}
use Rattle.jobs.specs.declared.question_answer.Answered.{Answered}
use Rattle.jobs.specs.declared.question_answer.QuestionAnswer.{QuestionAnswer}
use Rattle.jobs.specs.declared.question_answer.QuestionAnswer.TheVariants as answers
use Rattle.jobs.specs.declared.start.Start.{Start}
use Rattle.jobs.specs.Questions.{asking_of, IsAnswered, IsFirstUntold, IsToldOne, IsToldWhy, IsUntold}

abbrev asked_in : List Answered → List NamedQuestion
asked_in answers = map (λ one. one.question) answers

-- Those before the rest are answered.
abbrev pub AreSoFar : QuestionOptions → Start → List NamedQuestion → List NamedQuestion → List Answered → Type 0
AreSoFar options start questions rest answers = (asked_in answers ++ rest ≡ questions) × All (IsAnswered options start) answers

-- one more is answered
pub one_more : (options : QuestionOptions) (start : Start) (questions rest : List NamedQuestion) (q : NamedQuestion) (answers now : List Answered) (one : Answered) → now ≡ answers ++ one ∷ []
    → one.question ≡ q → IsAnswered options start one → AreSoFar options start questions (q ∷ rest) answers → AreSoFar options start questions rest now
one_more options start questions rest q answers now one pushed is right so_far = (
  ap (λ (ones : List Answered). asked_in ones ++ rest) pushed ∙ ap (λ (qs : List NamedQuestion). qs ++ rest) (map-append (λ (a : Answered). a.question) answers (one ∷ []))
      ∙ append_assoc (asked_in answers) (one.question ∷ []) rest ∙ ap (λ (x : NamedQuestion). asked_in answers ++ x ∷ rest) is ∙ so_far.0,
  subst (All (IsAnswered options start)) (sym pushed)
      (All-append (IsAnswered options start) answers (one ∷ []) so_far.1 (All-cons (IsAnswered options start) one [] right (All-nil (IsAnswered options start)))),
)

-- the next is not told
pub first_untold : (options : QuestionOptions) (start : Start) (questions rest : List NamedQuestion) (q : NamedQuestion) (answers : List Answered) (fault : ExploreFault)
    → IsUntold options start q fault → AreSoFar options start questions (q ∷ rest) answers → IsFirstUntold options start questions fault
first_untold options start questions rest q answers fault untold so_far =
    record { before = answers; one = q; after = rest; are = so_far.0; answered = so_far.1; untold = untold }

-- ---- what is told does not depend on what the start asks

why_of : (options : QuestionOptions) (start : Start) (question : Question) (q : NamedQuestion) (told : Explained) (answer : QuestionAnswer)
    → IsToldWhy options (asking_of question start) q told answer → IsToldWhy options start q told answer
why_of options start question q told answers.Holds is = tt
why_of options start question q told (answers.Fails failure) is = is
why_of options start question q told (answers.Found failure) is = is
why_of options start question q told answers.Nowhere is = tt
why_of options start question q told answers.OfNoState is = tt
why_of options start question q told answers.NotAsked is = tt

answered_of : (options : QuestionOptions) (start : Start) (question : Question) (one : Answered) → IsAnswered options (asking_of question start) one → IsAnswered options start one
answered_of options start question one is = record { answer = is.answer; told = why_of options start question one.question one.told one.answer is.told }

told_of : (options : QuestionOptions) (start : Start) (question : Question) (q : NamedQuestion) (result : Result Answered ExploreFault) → IsToldOne options (asking_of question start) q result
    → IsToldOne options start q result
told_of options start question q (Ok one) is = (is.0, answered_of options start question one is.1)
told_of options start question q (Err fault) is = is

pub told_from : (options : QuestionOptions) (start now : Start) (q : NamedQuestion) (result : Result Answered ExploreFault) → now ≡ asking_of now.question start
    → IsToldOne options now q result → IsToldOne options start q result
told_from options start now q result is told = told_of options start now.question q result (subst (λ (s : Start). IsToldOne options s q result) is told)

-- a start that asks something else twice
pub asking_again : (start now later : Start) → now ≡ asking_of now.question start → later ≡ asking_of later.question now → later ≡ asking_of later.question start
asking_again start now later first second = second ∙ ap (asking_of later.question) first
