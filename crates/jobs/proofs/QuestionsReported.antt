-- What is reported of the questions of a program is what is found of them.
use Rattle.std.proofs.Common.{◌≡◌, ◌∙◌, ℕ, ◌==◌, ◌++◌, if◌then◌else◌, Option, None, Some, Result, Ok, Err, List, [], ◌∷◌, codes, length, ap, arith, refl, subst, sym}
use Rattle.std.specs.Prelude.{Contains}
use Rattle.lines_layout.specs.Names.{Text}
use Rattle.explore.specs.declared.fault.ExploreFault.{ExploreFault}
use Rattle.explore.specs.declared.fault.ExploreFault.TheVariants.{TooManyStates, NoRoom, TooMany, NoMemory}
use Rattle.explore.specs.declared.question.Question.{Question}
use Rattle.commands.specs.declared.fault.Fault.{Fault}
use Rattle.commands.specs.declared.fault.Stage.TheVariants as stages
use Rattle.commands.specs.declared.jobs.QuestionOptions.{QuestionOptions}
use Rattle.commands.specs.Faults.{missing}
use Rattle.commands.specs.Serving.{Report}
use Rattle.commands.specs.Works.{MakesOneOf}
use Rattle.jobs.specs.declared.form.Answer.{Answer}
use Rattle.jobs.specs.declared.question_answer.QuestionsFound.{QuestionsFound}
use Rattle.jobs.specs.declared.start.Start.{Start}
use Rattle.jobs.specs.Forms.{printed}
use Rattle.jobs.specs.Questions.{Asking, asking_of}
use Rattle.jobs.specs.QuestionReports.{first_bad, found_text, judged_text, IsFound, IsPrinted, IsReported}
use Rattle.jobs.specs.declared.question_answer.Answered.{Answered}
use Rattle.commands.specs.ImageTexts.{line}
use Rattle.jobs.specs.Starts.{fault_of, IsReady}

-- memory for it is that of an exploration
no_memory : (says : Start → QuestionsFound → Text) (options : QuestionOptions) (asking : Asking) → IsReported says options asking (Err (missing stages.Exploration))
unfolding MakesOneOf
no_memory says options asking = (0, omega arith, refl)

-- what is not told
untold : (says : Start → QuestionsFound → Text) (options : QuestionOptions) (asking : Asking) (why : ExploreFault) → IsReady asking.start.machine
    → IsFound options asking (Err (fault_of why)) → IsReported says options asking (Err (fault_of why))
unfolding MakesOneOf
untold says options asking TooManyStates ready found = (ready, found)
untold says options asking NoRoom ready found = (ready, found)
untold says options asking TooMany ready found = (ready, found)
untold says options asking NoMemory ready found = no_memory says options asking

told : (says : Start → QuestionsFound → Text) (options : QuestionOptions) (asking : Asking) (answer : Answer QuestionsFound) (report : Report) → IsReady asking.start.machine
    → IsFound options asking (Ok answer) → report ≡ printed (says asking.start) answer → IsReported says options asking (Ok report)
unfolding MakesOneOf
told says options asking answer report ready found is = (ready, (answer, found, is))

pub reported : (says : Start → QuestionsFound → Text) (options : QuestionOptions) (asking : Asking) (found : Result (Answer QuestionsFound) Fault) (made : Result Report Fault)
    → IsReady asking.start.machine → IsFound options asking found → IsPrinted (says asking.start) found made → IsReported says options asking made
reported says options asking (Ok answer) (Ok report) ready found is = told says options asking answer report ready found is
reported says options asking (Ok answer) (Err fault) ready found is = subst (λ (f : Fault). IsReported says options asking (Err f)) (sym is) (no_memory says options asking)
reported says options asking (Err fault) made ready found is =
    let why = found.0 in
    let same : fault ≡ fault_of why = found.2 in
    let right = subst (λ (f : Fault). IsFound options asking (Err f)) same found in
    let whole : made ≡ Err (fault_of why) = is ∙ ap (λ (f : Fault). err_as f) same in
    subst (λ (m : Result Report Fault). IsReported says options asking m) (sym whole) (untold says options asking why ready right)
  where
    err_as : Fault → Result Report Fault
    err_as f = Err f

-- what is said of it does not depend on what is asked last
same_judged : (options : QuestionOptions) (question : Question) (start : Start) (answers : List Answered) (bad : Option Answered)
    → judged_text options (asking_of question start) answers bad ≡ judged_text options start answers bad
same_judged options question start answers None = refl
same_judged options question start answers (Some bad) = refl

pub same_text : (file : Option Text) (options : QuestionOptions) (question : Question) (start : Start) (found : QuestionsFound)
    → found_text file options (asking_of question start) found ≡ found_text file options start found
same_text None options question start found = refl
same_text (Some file) options question start found =
    let answers = found.answers.items in
    ap (λ (said : Text). file ++ (codes ": " ++ (if length answers == 0 then line (codes "nothing asked") else said))) (same_judged options question start answers (first_bad answers))

-- what is reported by a start that asks something else
pub reported_later : (file : Option Text) (options : QuestionOptions) (asking : Asking) (later : Start) (found : Result (Answer QuestionsFound) Fault) (made : Result Report Fault)
    → IsReady asking.start.machine → later ≡ asking_of later.question asking.start → IsFound options asking found → IsPrinted (found_text file options later) found made
    → IsReported (found_text file options) options asking made
reported_later file options asking later found made ready kept right is =
    let here = subst (λ (s : Start). IsPrinted (found_text file options s) found made) kept is in
    let said = subst (λ (says : QuestionsFound → Text). IsPrinted says found made) (λ i found. same_text file options later.question asking.start found i) here in
    reported (found_text file options) options asking found made ready right said
