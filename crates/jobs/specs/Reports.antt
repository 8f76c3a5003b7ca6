-- The reports of the commands without threads, and the works that make them.
use Rattle.std.specs.Prelude.{◌≡◌, ℕ, Bool, true, Option, Some, None, option_copied, Ok, List, ◌++◌}
use Rattle.machine.specs.declared.step.Step.{Step}
use Rattle.machine.specs.declared.refusal.Refusal.{Refusal}
use Rattle.loader.specs.Spelling.{object_bytes}
use Rattle.loader.specs.declared.version.Version.TheVariants.{Two}
use Rattle.isa.specs.Objects as programs
use Rattle.machine.specs.declared.trace_law.Pair.{Pair}
use Rattle.machine.specs.Objects.{opening}
use Rattle.machine.specs.Steps.{End, run_of}
use Rattle.machine.specs.Effects.{IsAnswer}
use Rattle.machine.specs.LooseSteps.{loose_run_of}
use Rattle.machine.specs.TraceLaws.{law_of}
use Rattle.lines_layout.specs.Layouts.{NamedLines}
use Rattle.images.specs.Images.{IsLeastSet, IsListing, closed_set_of, images_of}
use Rattle.jobs.specs.ImageReports.{Listing, Question, listing_status, listing_text, listing_work, looks, set_status, set_text}
use Rattle.litmus_text.specs.Written.{written}
use Rattle.commands.specs.StateTexts.{run_text}
use Rattle.commands.specs.declared.fault.Stage.TheVariants as stages
use Rattle.commands.specs.declared.status.Status.{Status}
use Rattle.commands.specs.declared.status.Status.TheVariants.{Done, Unmet, Refused}
use Rattle.commands.specs.declared.jobs.ImagesOptions.{ImagesOptions}
use Rattle.commands.specs.Programs.{asked_condition, lined_work, list_of, list_work, program_of, program_work, questioned_work, state_work}
use Rattle.jobs.specs.declared.form.Answer.{Answer}
use Rattle.jobs.specs.Forms.{answer_of, command_work}
use Rattle.commands.specs.Works.{◌>>=◌, Work, done, work}
use Rattle.commands.specs.Serving.{Report}
use Rattle.commands.specs.declared.jobs.NextOptions.{NextOptions}
use Rattle.commands.specs.declared.jobs.ReplayOptions.{ReplayOptions}
use Rattle.commands.specs.declared.jobs.SetOptions.{SetOptions}
use Rattle.litmus_text.specs.TextLines.{TextLines}
use Rattle.jobs.specs.declared.image_told.WithImage.{WithImage}
use Rattle.jobs.specs.ImagesTold.{ImageTold, explained_lines, image_broken, image_left, told_work}
use Rattle.questions.specs.Questions.{Questioned}
use Rattle.schedule.specs.Schedules.{schedule_of}
use Rattle.schedule.specs.Written.{steps_text}
use Rattle.machine.specs.State.{State}
use Rattle.jobs.specs.PairTexts.{pair_text}
use Rattle.jobs.specs.Traces.{trace_text}
use Rattle.jobs.specs.NextSteps.{next_lines, next_status, next_steps}
use Rattle.jobs.specs.Values.{values_in, values_work}

-- the status of a run
abbrev pub status_of : Option Refusal → Status
status_of None = Done
status_of (Some refusal) = Refused

-- the status for how a run ended
abbrev pub end_status : End → Status
end_status end = status_of end.refusal

-- run: the step list is read, and the steps are made on the machine of the program; how that ended is reported
abbrev pub run_found : programs.Object → List ℕ → Work (Answer End)
run_found object steps = do
  list ← list_work steps
  work stages.Machine (Ok (answer_of end_status (run_of list (opening object))))

abbrev pub run_on : programs.Object → List ℕ → Work Report
run_on object steps = command_work (run_found object steps) stages.Machine (run_text object.layout)

abbrev pub run_work : List ℕ → List ℕ → Work Report
run_work program steps = do
  object ← program_work program
  run_on object steps

-- the status for the pair that was found
abbrev pub pair_status : Option Pair → Status
pair_status None = Done
pair_status (Some pair) = Unmet

-- law: the step list is read, and the pair of operations is reported that the steps break first
abbrev pub law_found : programs.Object → List ℕ → Work (Answer (Option Pair))
law_found object steps = do
  list ← list_work steps
  found ← work stages.Machine (Ok (law_of object list))
  done (answer_of pair_status found)

abbrev pub law_on : programs.Object → List ℕ → Work Report
law_on object steps = command_work (law_found object steps) stages.Machine pair_text

abbrev pub law_work : List ℕ → List ℕ → Work Report
law_work program steps = do
  object ← program_work program
  law_on object steps

-- asm: the program as an object file, of the version that has names
abbrev pub asm_of : programs.Object → Report
asm_of object = record { text = object_bytes Two object; status = Done }

abbrev pub asm_work : List ℕ → Work Report
asm_work program = do
  object ← program_work program
  work stages.Object (Ok (asm_of object))

-- dis: the program as a litmus text
abbrev pub dis_of : programs.Object → Report
dis_of object = record { text = written object; status = Done }

abbrev pub dis_work : List ℕ → Work Report
dis_work program = do
  object ← program_work program
  work stages.Text (Ok (dis_of object))

-- what is asked about the images of a program
abbrev pub question_work : Questioned → ImagesOptions → Work Question
question_work program options = do
  all ← asked_condition program (option_copied options.all)
  some ← asked_condition program (option_copied options.some)
  done (record { only_count = options.only_count; all = all; some = some })

-- what is found of the images of the state that a run left
abbrev pub images_after : Question → End → Work (Answer Listing)
images_after question end = do
  state ← state_work end
  listing ← listing_work question state
  done (answer_of listing_status listing)

-- what is found, and what is told of an image that it names
abbrev pub with_image : {A : Type 0} → Answer A → Option ImageTold → Answer (WithImage A)
with_image answer told = record { found = record { found = answer.found; told = told }; status = answer.status }

-- the same after these steps of a program, and what is told of the image that breaks the condition, where this is asked for
abbrev pub images_told : Bool → programs.Object → Question → List Step → Work (Answer (WithImage Listing))
images_told asked object question list = do
  answer ← images_after question (run_of list (opening object))
  told ← told_work asked object list (image_broken answer.found.broken)
  done (with_image answer told)

-- images: the steps are made, and what is asked about the images of the state is found
abbrev pub images_found : ImagesOptions → Questioned → List ℕ → Work (Answer (WithImage Listing))
images_found options program steps = do
  question ← question_work program options
  list ← list_work steps
  images_told options.explains_image program.lined.object question list

-- its lines: those of what is found, and those of the image
abbrev pub images_text : Bool → NamedLines → TextLines → WithImage Listing → List ℕ
images_text named names lines found = listing_text named names found.found ++ explained_lines names lines found.told

abbrev pub images_on : ImagesOptions → Questioned → List ℕ → Work Report
images_on options program steps =
    command_work (images_found options program steps) stages.Images (images_text options.names program.lined.object.layout program.lined.lines)

-- the program is read with the lines of its text, on which instructions are named, and with what conditions may name
abbrev pub images_work : ImagesOptions → List ℕ → List ℕ → Work Report
images_work options program steps = do
  read ← questioned_work program
  images_on options read steps

-- the pending entries that leave one image of the state that a run left
abbrev pub set_after : List ℕ → End → Work (Answer (Option (List ℕ)))
set_after image end = do
  state ← state_work end
  work stages.Images (Ok (answer_of set_status (closed_set_of state image)))

-- the same after these steps of a program, and what is told of the image, where this is asked for
abbrev pub set_told : Bool → programs.Object → List ℕ → List Step → Work (Answer (WithImage (Option (List ℕ))))
set_told asked object image list = do
  answer ← set_after image (run_of list (opening object))
  told ← told_work asked object list (image_left image answer.found)
  done (with_image answer told)

-- images --set: the steps are made, and the pending entries are reported that leave the image of these values
abbrev pub set_found : SetOptions → programs.Object → List ℕ → Work (Answer (WithImage (Option (List ℕ))))
set_found options object steps = do
  image ← values_work object.layout options.values.now
  list ← list_work steps
  set_told options.explains_image object image list

-- its lines: those of the set, and those of the image
abbrev pub set_lines : NamedLines → TextLines → WithImage (Option (List ℕ)) → List ℕ
set_lines names lines found = set_text found.found ++ explained_lines names lines found.told

abbrev pub set_on : SetOptions → programs.Object → TextLines → List ℕ → Work Report
set_on options object lines steps = command_work (set_found options object steps) stages.Images (set_lines object.layout lines)

abbrev pub set_work : SetOptions → List ℕ → List ℕ → Work Report
set_work options program steps = do
  lined ← lined_work program
  set_on options lined.object lined.lines steps

-- trace: the program and the step list are read, and there is a line for each step up to the first that is refused; the
-- status is that of run
abbrev pub trace_after : programs.Object → List Step → Report
trace_after object list =
    record { text = trace_text object.layout list (opening object); status = status_of (run_of list (opening object)).refusal }

abbrev pub trace_on : programs.Object → List ℕ → Work Report
trace_on object steps = do
  list ← list_work steps
  work stages.Machine (Ok (trace_after object list))

abbrev pub trace_work : List ℕ → List ℕ → Work Report
trace_work program steps = do
  object ← program_work program
  trace_on object steps

-- the steps that may come next in a state, and what each would show
abbrev pub next_from : NamedLines → NextOptions → State → Report
next_from names options s = record { text = next_lines names s (next_steps options.refused s); status = next_status s }

-- next: the steps are made, and there is a line for each step that the state accepts to which they lead. Out of memory for these
-- is reported as that of the machine.
abbrev pub next_on : NextOptions → programs.Object → List ℕ → Work Report
next_on options object steps = do
  list ← list_work steps
  state ← state_work (run_of list (opening object))
  work stages.Machine (Ok (next_from object.layout options state))

abbrev pub next_work : NextOptions → List ℕ → List ℕ → Work Report
next_work options program steps = do
  object ← program_work program
  next_on options object steps

-- the steps of one schedule of a plan, from a state
abbrev pub replay_from : ReplayOptions → State → Answer (List Step)
replay_from options start = record { found = (schedule_of options.plan options.number start).steps; status = Done }

-- replay: the steps are made, and the steps of one schedule are reported from the state to which they lead. Out of memory
-- for the schedule and its text is reported as that of the machine.
abbrev pub replay_found : ReplayOptions → programs.Object → List ℕ → Work (Answer (List Step))
replay_found options object steps = do
  list ← list_work steps
  state ← state_work (run_of list (opening object))
  work stages.Machine (Ok (replay_from options state))

abbrev pub replay_on : ReplayOptions → programs.Object → List ℕ → Work Report
replay_on options object steps = command_work (replay_found options object steps) stages.Machine steps_text

abbrev pub replay_work : ReplayOptions → List ℕ → List ℕ → Work Report
replay_work options program steps = do
  object ← program_work program
  replay_on options object steps

-- What asm writes of a program file is read as the very program, with its own names, by every command; dis writes its
-- written form.
abbrev pub IsSpelled : programs.Object → Type 0
IsSpelled object =
    (program_of (object_bytes Two object) ≡ Ok object)
    × ((dis_work (object_bytes Two object)).told ≡ Ok (dis_of object))

abbrev pub IsReadAgain : List ℕ → Type 0
IsReadAgain program = (object : programs.Object) → program_of program ≡ Ok object → IsSpelled object

-- What `images` answers is of all images, where it looks at them: of the state to which the steps lead, the list by
-- which the answer is defined has each image once, ascending, and nothing else.
abbrev pub IsOfAllImages : ImagesOptions → List ℕ → List ℕ → Type 0
IsOfAllImages options program steps =
    (read : Questioned) (question : Question) (list : List Step)
    → (questioned_work program).told ≡ Ok read → (question_work read options).told ≡ Ok question → list_of steps ≡ Ok list → looks question ≡ true
    → IsListing (run_of list (opening read.lined.object)).state (images_of (run_of list (opening read.lined.object)).state)

-- The same of a program that was read.
abbrev pub IsOfImagesOn : ImagesOptions → Questioned → List ℕ → Type 0
IsOfImagesOn options program steps =
    (question : Question) (list : List Step)
    → (question_work program options).told ≡ Ok question → list_of steps ≡ Ok list → looks question ≡ true
    → IsListing (run_of list (opening program.lined.object)).state (images_of (run_of list (opening program.lined.object)).state)

-- What `images --set` answers is the least closed set that leaves the image, of the state to which the steps lead, or
-- that the image is none of its images.
abbrev pub IsOfLeastSet : List ℕ → List ℕ → List ℕ → Type 0
IsOfLeastSet text program steps =
    (object : programs.Object) (image : List ℕ) (list : List Step)
    → program_of program ≡ Ok object → values_in object.layout text ≡ Ok image → list_of steps ≡ Ok list
    → IsLeastSet (run_of list (opening object)).state image (closed_set_of (run_of list (opening object)).state image)

-- The same of a program that was read.
abbrev pub IsOfSetOn : List ℕ → programs.Object → List ℕ → Type 0
IsOfSetOn text object steps =
    (image : List ℕ) (list : List Step) → values_in object.layout text ≡ Ok image → list_of steps ≡ Ok list
    → IsLeastSet (run_of list (opening object)).state image (closed_set_of (run_of list (opening object)).state image)

-- What `law` answers is the first broken pair of the run in which no step waits for the order alone, or that no pair of
-- it is broken.
abbrev pub IsOfLooseRun : List ℕ → List ℕ → Type 0
IsOfLooseRun program steps =
    (object : programs.Object) (list : List Step) → program_of program ≡ Ok object → list_of steps ≡ Ok list
    → IsAnswer (loose_run_of list (opening object)) (law_of object list)

-- The same of a program that was read.
abbrev pub IsOfLooseRunOn : programs.Object → List ℕ → Type 0
IsOfLooseRunOn object steps =
    (list : List Step) → list_of steps ≡ Ok list → IsAnswer (loose_run_of list (opening object)) (law_of object list)
