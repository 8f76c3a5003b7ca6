-- The report of the questions of a program, in lines, and the command that makes it.
use Rattle.std.specs.Prelude.{◌≡◌, ℕ, true, false, if◌then◌else◌, not, ◌&&◌, ◌||◌, ◌==◌, Bool, Option, Some, None, Result, Ok, Err, List, [], ◌∷◌, ◌++◌, codes, count_by, decimal, find, length, map}
use Rattle.std.specs.List.{flat_map, list_all}
use Rattle.lines_layout.specs.Layouts.{NamedLines}
use Rattle.lines_layout.specs.Lines.{word_at}
use Rattle.lines_layout.specs.Names.{Text}
use Rattle.explore.specs.declared.verdict.Failure.{Failure}
use Rattle.commands.specs.declared.fault.Fault.{Fault}
use Rattle.commands.specs.declared.fault.Stage.TheVariants as stages
use Rattle.commands.specs.Faults.{missing}
use Rattle.commands.specs.declared.jobs.QuestionOptions.{QuestionOptions}
use Rattle.commands.specs.declared.status.Status.{Status}
use Rattle.commands.specs.declared.status.Status.TheVariants.{Done, Unmet}
use Rattle.commands.specs.ImageTexts.{line}
use Rattle.commands.specs.OutcomeTexts.{named_texts, names_of}
use Rattle.commands.specs.Serving.{Command, Report}
use Rattle.commands.specs.StateTexts.{name_text}
use Rattle.commands.specs.Works.{MakesOneOf, MakesThen}
use Rattle.explore.specs.declared.fault.ExploreFault.{ExploreFault}
use Rattle.jobs.specs.declared.explained.Explained.{Explained}
use Rattle.jobs.specs.declared.form.Answer.{Answer}
use Rattle.jobs.specs.declared.question_answer.Answered.{Answered}
use Rattle.jobs.specs.declared.question_answer.QuestionAnswer.{QuestionAnswer}
use Rattle.jobs.specs.declared.question_answer.QuestionAnswer.TheVariants as answers
use Rattle.jobs.specs.declared.question_answer.QuestionsFound.{QuestionsFound}
use Rattle.jobs.specs.declared.start.Start.{Start}
use Rattle.jobs.specs.CheckReports.{behind_failed}
use Rattle.jobs.specs.Forms.{printed}
use Rattle.jobs.specs.Questions.{Asking, AreTold, asking_start, is_good, run_options}
use Rattle.jobs.specs.Starts.{fault_of, IsReady}

-- ---- the values of a state

-- the name of the word at an address, behind `&`, or else a number
abbrev pub pointed_text : NamedLines → ℕ → Option ℕ → Text
pointed_text names value (Some word) = codes "&" ++ name_text names word
pointed_text names value None = decimal value

-- a value: where it is the address of a word, this word
abbrev pub value_text : NamedLines → ℕ → Text
value_text names value = pointed_text names value (word_at (map length names) value)

-- a word with its value
abbrev pub bound_text : NamedLines → Text → ℕ → Text
bound_text names name value = codes " " ++ name ++ codes "=" ++ value_text names value

-- all words, in order of number
abbrev pub bound_texts : NamedLines → List ℕ → Text
bound_texts names values = named_texts (bound_text names) (names_of names) values

-- ---- an answer

-- what stands behind the name of a question
abbrev pub answer_text : NamedLines → QuestionAnswer → Text
answer_text names answers.Holds = codes " holds"
answer_text names (answers.Fails failure) = codes " fails" ++ bound_texts names failure.values
answer_text names (answers.Found failure) = codes " found" ++ bound_texts names failure.values
answer_text names answers.Nowhere = codes " none"
answer_text names answers.OfNoState = codes " asked of no state"
answer_text names answers.NotAsked = codes " not asked"

-- whether it is asked how the run of an answer goes, or why
abbrev pub shows_runs : QuestionOptions → Bool
shows_runs options = options.show || options.explains_image

-- how many steps the run of an answer has, its steps, and what explains it, where these are asked for
abbrev pub run_text : QuestionOptions → Start → Failure → Explained → Text
run_text options start failure told =
    if shows_runs options then line (codes "steps " ++ decimal (length failure.run)) ++ behind_failed (run_options options) start failure told else []

-- the same of an answer that has one
abbrev pub behind_answer : QuestionOptions → Start → Explained → QuestionAnswer → Text
behind_answer options start told (answers.Fails failure) = run_text options start failure told
behind_answer options start told (answers.Found failure) = run_text options start failure told
behind_answer options start told _ = []

-- the line of a question, and what stands behind it
abbrev pub answered_text : QuestionOptions → Start → Answered → Text
answered_text options start one =
    one.question.name ++ (line (answer_text start.object.layout one.answer) ++ behind_answer options start one.told one.answer)

-- ---- the report

-- a line for each question with what stands behind it; or that there is none
abbrev pub answers_text : QuestionOptions → Start → List Answered → Text
answers_text options start answers = if length answers == 0 then line (codes "nothing asked") else flat_map (answered_text options start) answers

-- ---- the report of one of several files

-- whether a question is asked: not of ends after a crash, where runs do not crash
abbrev pub is_asked : QuestionAnswer → Bool
is_asked answers.NotAsked = false
is_asked _ = true

-- how many questions are asked
abbrev pub asked_count : List Answered → ℕ
asked_count answers = count_by (λ one. is_asked one.answer) answers

-- the same, where all answers are good
abbrev pub good_text : List Answered → Text
good_text answers = line (decimal (asked_count answers) ++ codes " hold")

-- the first answer that is not good
abbrev pub first_bad : List Answered → Option Answered
first_bad answers = find (λ one. not (is_good one.answer)) answers

-- what is said of answers, of which this is the first that is not good: its question alone
abbrev pub judged_text : QuestionOptions → Start → List Answered → Option Answered → Text
judged_text options start answers None = good_text answers
judged_text options start answers (Some bad) = answered_text options start bad

-- the line of a file: its name, and whether all its answers are good; or that it asks nothing
abbrev pub file_text : Text → QuestionOptions → Start → List Answered → Text
file_text file options start answers =
    file ++ (codes ": " ++ (if length answers == 0 then line (codes "nothing asked") else judged_text options start answers (first_bad answers)))

-- the report of answers: in short, where their file is one of several
abbrev pub text_for : Option Text → QuestionOptions → Start → List Answered → Text
text_for None options start answers = answers_text options start answers
text_for (Some file) options start answers = file_text file options start answers

-- the same of what is found
abbrev pub found_text : Option Text → QuestionOptions → Start → QuestionsFound → Text
found_text file options start found = text_for file options start found.answers.items

-- whether all answers are good
abbrev pub are_good : List Answered → Bool
are_good answers = list_all (λ one. is_good one.answer) answers

-- the status for answers: each is to be good, and there is to be one
abbrev pub answers_status : List Answered → Status
answers_status answers = if not (length answers == 0) && are_good answers then Done else Unmet

-- All questions are answered, and this is the status for it; or this is why they are not.
abbrev pub IsFound : QuestionOptions → Asking → Result (Answer QuestionsFound) Fault → Type 0
IsFound options asking (Ok answer) =
    AreTold options asking.start asking.questions (Ok answer.found.answers.items) × (answer.status ≡ answers_status answer.found.answers.items)
IsFound options asking (Err fault) = (why : ExploreFault) × AreTold options asking.start asking.questions (Err why) × (fault ≡ fault_of why)

-- What is found is reported by what is said of it; or memory runs out for that.
abbrev pub IsPrinted : (QuestionsFound → Text) → Result (Answer QuestionsFound) Fault → Result Report Fault → Type 0
IsPrinted says (Ok answer) (Ok report) = report ≡ printed says answer
IsPrinted says (Ok answer) (Err fault) = fault ≡ missing stages.Exploration
IsPrinted says (Err fault) made = made ≡ Err fault

-- What may be reported of it, by what is said of what is found. Runs may start from the machine.
abbrev pub MayReportAll : (Start → QuestionsFound → Text) → QuestionOptions → Asking → Result Report Fault → Type 0
MayReportAll says options asking (Ok report) =
    IsReady asking.start.machine × ((answer : Answer QuestionsFound) × IsFound options asking (Ok answer) × (report ≡ printed (says asking.start) answer))
MayReportAll says options asking (Err fault) = IsReady asking.start.machine × IsFound options asking (Err fault)

-- the same, where memory may run out
abbrev pub IsReported : (Start → QuestionsFound → Text) → QuestionOptions → Asking → Result Report Fault → Type 0
IsReported says options asking made = MakesOneOf (MayReportAll says options asking) (stages.Exploration ∷ []) made

-- a command that asks the questions of a program, by what is said of what is found
abbrev pub asking_command : (QuestionOptions → Start → QuestionsFound → Text) → QuestionOptions → Command
asking_command says options = record {
  reads_steps = true;
  May = λ both made. MakesThen (asking_start options both.program both.steps) (λ asking report. IsReported (says options) options asking report) made;
}

-- `check` that asks the questions of a program, whose file has a name, where it is one of several
unfoldable pub ask_command : Option Text → QuestionOptions → Command
ask_command file options = asking_command (found_text file) options
