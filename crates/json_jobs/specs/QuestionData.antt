-- The report of the questions of a program as JSON.
use Rattle.std.specs.Prelude.{◌≡◌, ℕ, Bool, true, false, Option, None, Some, List, [], ◌∷◌, ◌++◌, codes, map}
use Rattle.std.specs.Str.Lossy.{utf8_lossy}
use Rattle.questions.specs.declared.question.Place.{Place}
use Rattle.questions.specs.declared.question.Place.TheVariants as places
use Rattle.commands.specs.declared.jobs.QuestionOptions.{QuestionOptions}
use Rattle.commands.specs.declared.status.Status.{Status}
use Rattle.commands.specs.declared.status.Status.TheVariants as statuses
use Rattle.commands.specs.Serving.{Command}
use Rattle.jobs.specs.declared.explained.Explained.{Explained}
use Rattle.jobs.specs.declared.question_answer.Answered.{Answered}
use Rattle.jobs.specs.declared.question_answer.QuestionAnswer.{QuestionAnswer}
use Rattle.jobs.specs.declared.question_answer.QuestionAnswer.TheVariants as answers
use Rattle.jobs.specs.declared.question_answer.QuestionsFound.{QuestionsFound}
use Rattle.jobs.specs.declared.start.Start.{Start}
use Rattle.jobs.specs.Questions.{run_options}
use Rattle.jobs.specs.QuestionReports.{answers_status, asking_command}
use Rattle.json_texts.specs.ImageData.{names_data}
use Rattle.json_texts.specs.Objects.{Text, Tree, boolean, header, list, null, nums, obj, report_text, word}
use Rattle.json_texts.specs.StepData.{steps_data}
use Rattle.json_jobs.specs.RunReports.{explained, run_lines}

-- ---- a question with its answer

abbrev pub place_name : Place → Text
place_name places.Crash = codes "crash"
place_name places.End = codes "end"
place_name places.Recovery = codes "recovery"

abbrev pub answer_name : QuestionAnswer → Text
answer_name answers.Holds = codes "holds"
answer_name (answers.Fails failure) = codes "fails"
answer_name (answers.Found failure) = codes "found"
answer_name answers.Nowhere = codes "none"
answer_name answers.OfNoState = codes "asked of no state"
answer_name answers.NotAsked = codes "not asked"

-- the values of the words, where the answer has a run
abbrev pub values_of : QuestionAnswer → Tree
values_of (answers.Fails failure) = nums failure.values
values_of (answers.Found failure) = nums failure.values
values_of _ = null

-- the steps of its run
abbrev pub steps_of : QuestionAnswer → Tree
steps_of (answers.Fails failure) = steps_data failure.run
steps_of (answers.Found failure) = steps_data failure.run
steps_of _ = null

-- the lines of the instructions that these execute
abbrev pub lines_of : Start → QuestionAnswer → Tree
lines_of start (answers.Fails failure) = run_lines start failure
lines_of start (answers.Found failure) = run_lines start failure
lines_of start _ = null

-- what explains its run, where that is asked for
abbrev pub explained_of : QuestionOptions → Start → Explained → QuestionAnswer → Tree
explained_of options start told (answers.Fails failure) = explained (run_options options) start failure told
explained_of options start told (answers.Found failure) = explained (run_options options) start failure told
explained_of options start told _ = null

-- a question with its answer
abbrev pub answered_data : QuestionOptions → Start → Answered → Tree
answered_data options start one =
    obj ((codes "name", word (utf8_lossy one.question.name)) ∷ (codes "every", boolean one.question.every)
    ∷ (codes "place", word (place_name one.question.place)) ∷ (codes "answer", word (answer_name one.answer))
    ∷ (codes "values", values_of one.answer) ∷ (codes "steps", steps_of one.answer) ∷ (codes "lines", lines_of start one.answer)
    ∷ (codes "explained", explained_of options start one.told one.answer) ∷ [])

-- ---- the report

-- whether the questions are answered as is wished
abbrev pub is_done : Status → Bool
is_done statuses.Done = true
is_done statuses.Unmet = false
is_done statuses.Refused = false

-- all questions with their answers, in order
abbrev pub all_answered : QuestionOptions → Start → List Answered → Tree
all_answered options start answered = list (map (answered_data options start) answered)

-- the name of the file, where it is one of several
abbrev pub file_data : Option Text → List (Text × Tree)
file_data None = []
file_data (Some file) = (codes "file", word file) ∷ []

-- what is found
abbrev pub found_data : Option Text → QuestionOptions → Start → QuestionsFound → Tree
found_data file options start found =
    obj (header (codes "check")
    ++ (file_data file ++ (codes "holds", boolean (is_done (answers_status found.answers.items))) ∷ (codes "words", names_data start.object.layout)
    ∷ (codes "questions", all_answered options start found.answers.items) ∷ []))

-- its text
abbrev pub found_json : Option Text → QuestionOptions → Start → QuestionsFound → Text
found_json file options start found = report_text (found_data file options start found)

-- `check --json` that asks the questions of a program, whose file has a name, where it is one of several
unfoldable pub ask_command : Option Text → QuestionOptions → Command
ask_command file options = asking_command (found_json file) options
