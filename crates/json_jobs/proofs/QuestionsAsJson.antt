-- What is reported of answers as JSON is what is found, and does not depend on what is asked last.
use Rattle.std.proofs.Common.{◌≡◌, Option, Result, subst}
use Rattle.lines_layout.specs.Names.{Text}
use Rattle.commands.specs.declared.fault.Fault.{Fault}
use Rattle.commands.specs.declared.jobs.QuestionOptions.{QuestionOptions}
use Rattle.commands.specs.Serving.{Report}
use Rattle.jobs.specs.declared.form.Answer.{Answer}
use Rattle.jobs.specs.declared.question_answer.QuestionsFound.{QuestionsFound}
use Rattle.jobs.specs.declared.start.Start.{Start}
use Rattle.jobs.specs.Questions.{Asking, asking_of}
use Rattle.jobs.specs.QuestionReports.{IsFound, IsPrinted, IsReported}
use Rattle.jobs.specs.Starts.{IsReady}
use Rattle.jobs.proofs.QuestionsReported.{reported}
use Rattle.json_jobs.specs.QuestionData.{found_json}

-- what is reported by a start that asks something else
pub reported_later : (file : Option Text) (options : QuestionOptions) (asking : Asking) (later : Start) (found : Result (Answer QuestionsFound) Fault) (made : Result Report Fault)
    → IsReady asking.start.machine → later ≡ asking_of later.question asking.start → IsFound options asking found → IsPrinted (found_json file options later) found made
    → IsReported (found_json file options) options asking made
reported_later file options asking later found made ready kept right is =
    reported (found_json file options) options asking found made ready right (subst (λ (s : Start). IsPrinted (found_json file options s) found made) kept is)
