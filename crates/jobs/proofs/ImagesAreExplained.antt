-- Where a condition fails, the writes are told that are missing in what each crash of the run left, and in an image that breaks it.
use Rattle.std.proofs.Common.{◌≡◌, ◌∙◌, ◌++◌, [], ◌∷◌, if◌then◌else◌, ℕ, zero, suc, Bool, Option, Some, None, Result, Ok, Err, List, refl, sym, ap, subst, take}
use Rattle.std.specs.Prelude.{is_none, option_map}
use Rattle.isa.specs.Objects.{Object}
use Rattle.machine.specs.declared.refusal.Refusal.{Refusal}
use Rattle.machine.specs.declared.step.Step.{Step}
use Rattle.machine.specs.Objects.{opening}
use Rattle.machine.specs.State.{State}
use Rattle.machine.specs.declared.step.Seen.{Seen}
use Rattle.machine.specs.Steps.{End, end_after, run_of, step_of}
use Rattle.machine.proofs.RunIsAPrefix.{run_parts}
use Rattle.images.specs.Images.{IsImage, IsLeastSet, closed_set_of, pending_of}
use Rattle.pending_images.specs.Images.{image_now}
use Rattle.pending_images.proofs.LeastSetsAreFound.{is_least_set}
use Rattle.image_reasons.specs.declared.missing.Missing.{Missing}
use Rattle.image_reasons.specs.Origins.{Origins, origins_of}
use Rattle.image_reasons.specs.Reasons.{missing_after, missing_in, missing_writes}
use Rattle.explore.specs.declared.question.Question.{Question}
use Rattle.explore.specs.declared.verdict.Asked.{Asked}
use Rattle.explore.specs.declared.verdict.Asked.TheVariants.{All, Ends, Recovered}
use Rattle.explore.specs.declared.verdict.Failure.{Failure}
use Rattle.explore.specs.Questions.{FailsBy}
use Rattle.explore.specs.Sound.{IsSound}
use Rattle.explore.proofs.CoveredSteps.{sound_whole}
use Rattle.explore.proofs.SoundRuns.{of_itself, run_of_it}
use Rattle.commands.specs.declared.fault.Refused.{Refused}
use Rattle.commands.specs.declared.jobs.CheckOptions.{CheckOptions}
use Rattle.commands.specs.Programs.{questioned_work, unless_refused}
use Rattle.questions.specs.Questions.{Questioned}
use Rattle.commands.specs.Works.{◌>>=◌, Work, and_then, done, told_after}
use Rattle.jobs.specs.declared.start.Start.{Start}
use Rattle.jobs.specs.CheckReports.{IsCrashExplained, IsExplained}
use Rattle.jobs.specs.Crashes.{left_after}
use Rattle.jobs.specs.Given.{Given}
use Rattle.jobs.specs.Starts.{IsReady, check_asked, check_start, start_on}

-- ---- of an image of the end of a run

abbrev AreTold : Option (List Missing) → Type 0
AreTold told = (missing : List Missing) × (told ≡ Some missing)

by_set : (o : Origins) (s : State) (image : List ℕ) (found : Option (List ℕ)) → IsImage s image → IsLeastSet s image found
    → AreTold (option_map (missing_writes o s.shape image) found)
by_set o s image (Some places) is least = (missing_writes o s.shape image places, refl)
by_set o s image None is least = absurd (least is)

told_of : (object : Object) (steps : List Step) (image : List ℕ) → (run_of steps (opening object)).refusal ≡ None → IsSound (run_of steps (opening object)).state
    → IsImage (run_of steps (opening object)).state image → AreTold (missing_after object steps image)
told_of object steps image accepted sound is =
    let s = (run_of steps (opening object)).state in
    let o = origins_of object steps in
    let whole = sound_whole s sound in
    let (missing, told) = by_set o s image (closed_set_of s image) is (is_least_set s.shape image s.memory sound.shape whole.lines whole.persisted) in
    (missing, ap (λ (b : Bool). if b then missing_in o (pending_of s) image else None) (ap is_none accepted) ∙ told)

-- ---- a start

-- the given steps lead to its machine
record IsBegun (start : Start) : Type 0 where
  accepted : (run_of start.given.steps (opening start.object)).refusal ≡ None
  machine : start.machine ≡ (run_of start.given.steps (opening start.object)).state

module _ (start : Start) where
  abbrev started : Object → Question → Given → State → Work Start
  started object question given machine = done (record { object = object; question = question; machine = machine; given = given })

  by_refusal : (object : Object) (question : Question) (given : Given) (refusal : Option Refusal) → (run_of given.steps (opening object)).refusal ≡ refusal
      → told_after (unless_refused refusal (run_of given.steps (opening object)).accepted (run_of given.steps (opening object)).state) (started object question given) ≡ Ok start
      → IsBegun start
  unfolding done
  by_refusal object question given None is told =
      let same : record { object = object; question = question; machine = (run_of given.steps (opening object)).state; given = given } ≡ start = cc in
      subst IsBegun same (record { accepted = is; machine = refl })
  by_refusal object question given (Some refusal) is told = absurd (cc)

  abbrev started_on : Object → Question × Given → Work Start
  started_on object asked = start_on object asked.0 asked.1

  by_asked : (object : Object) (asked : Result (Question × Given) Refused) → told_after asked (started_on object) ≡ Ok start → IsBegun start
  unfolding and_then
  by_asked object (Ok asked) told = by_refusal object asked.0 asked.1 (run_of asked.1.steps (opening object)).refusal refl told
  by_asked object (Err refused) told = absurd (cc)

  abbrev asked_and_started : CheckOptions → List ℕ → Questioned → Work Start
  asked_and_started options steps program = check_asked options program steps >>= started_on program.lined.object

  by_program : (options : CheckOptions) (steps : List ℕ) (read : Result Questioned Refused) → told_after read (asked_and_started options steps) ≡ Ok start → IsBegun start
  unfolding and_then
  by_program options steps (Ok program) told = by_asked program.lined.object (check_asked options program steps).told told
  by_program options steps (Err refused) told = absurd (cc)

begun : (options : CheckOptions) (program steps : List ℕ) (start : Start) → (check_start options program steps).told ≡ Ok start → IsBegun start
unfolding and_then
begun options program steps start told = by_program start options steps (questioned_work program).told told

-- ---- both

explained : (start : Start) (failure : Failure) → IsBegun start → IsReady start.machine → FailsBy All start.question start.machine failure.run failure.values
    → IsExplained start failure
explained start failure begun ready (condition, asked, broken) =
    let given = start.given.steps in
    let object = start.object in
    let run = failure.run in
    let behind : run_of run (run_of given (opening object)).state ≡ run_of run start.machine = ap (λ (s : State). run_of run s) (sym begun.machine) in
    let parts = run_parts given run (opening object) begun.accepted in
    let accepted : (run_of (given ++ run) (opening object)).refusal ≡ None =
    ap (λ (e : End). e.refusal) parts ∙ (ap (λ (e : End). e.refusal) behind ∙ broken.is_run.accepted) in
    let end : (run_of (given ++ run) (opening object)).state ≡ (run_of run start.machine).state = ap (λ (e : End). e.state) parts ∙ ap (λ (e : End). e.state) behind in
    let sound : IsSound (run_of run start.machine).state = (run_of_it start.machine run start.machine (of_itself start.machine ready.sound)).sound in
    let image : IsImage (run_of run start.machine).state failure.values = broken.least.0 in
    told_of object (given ++ run) failure.values accepted (subst IsSound (sym end) sound) (subst (λ (s : State). IsImage s failure.values) (sym end) image)

pub images_explained : (options : CheckOptions) (program steps : List ℕ) (start : Start) (failure : Failure) → (check_start options program steps).told ≡ Ok start
    → IsReady start.machine → FailsBy All start.question start.machine failure.run failure.values → IsExplained start failure
images_explained options program steps start failure told ready fails = explained start failure (begun options program steps start told) ready fails

-- ---- a crash of the run

first_on : (s : State) (r : Result (Seen × State) Refusal) (first whole : State → End) → ((t : State) → (whole t).refusal ≡ None → (first t).refusal ≡ None)
    → (end_after s r whole).refusal ≡ None → (end_after s r first).refusal ≡ None
first_on s (Ok done) first whole h e = h done.1 e
first_on s (Err refusal) first whole h e = absurd (cc)

-- the first steps of a run that is accepted are accepted
first_accepted : (steps : List Step) (n : ℕ) (s : State) → (run_of steps s).refusal ≡ None → (run_of (take n steps) s).refusal ≡ None
first_accepted [] zero s e = refl
first_accepted [] (suc n) s e = refl
first_accepted (step ∷ steps) zero s e = refl
first_accepted (step ∷ steps) (suc n) s e = first_on s (step_of s step) (run_of (take n steps)) (run_of steps) (λ t. first_accepted steps n t) e

-- what has persisted is an image
pub now_is_image : (s : State) → IsImage s (image_now (pending_of s))
now_is_image s = (s.memory.persisted, (zero, s.memory, refl, refl), refl)

run_accepted : (asked : Asked) (question : Question) (start : State) (run : List Step) (values : List ℕ) → FailsBy asked question start run values
    → (run_of run start).refusal ≡ None
run_accepted All question start run values (condition, asked, broken) = broken.is_run.accepted
run_accepted Ends question start run values (condition, asked, end) = end.is_run.accepted
run_accepted Recovered question start run values (condition, asked, end) = end.is_run.accepted

crash_explained : (start : Start) (failure : Failure) (place : ℕ) → IsBegun start → IsReady start.machine → (run_of failure.run start.machine).refusal ≡ None
    → IsCrashExplained start failure place
crash_explained start failure place begun ready whole =
    let given = start.given.steps in
    let object = start.object in
    let run = take place failure.run in
    let behind : run_of run (run_of given (opening object)).state ≡ run_of run start.machine = ap (λ (s : State). run_of run s) (sym begun.machine) in
    let parts = run_parts given run (opening object) begun.accepted in
    let accepted : (run_of (given ++ run) (opening object)).refusal ≡ None =
    ap (λ (e : End). e.refusal) parts ∙ (ap (λ (e : End). e.refusal) behind ∙ first_accepted failure.run place start.machine whole) in
    let end : (run_of (given ++ run) (opening object)).state ≡ (run_of run start.machine).state = ap (λ (e : End). e.state) parts ∙ ap (λ (e : End). e.state) behind in
    let sound : IsSound (run_of run start.machine).state = (run_of_it start.machine run start.machine (of_itself start.machine ready.sound)).sound in
    told_of object (given ++ run) (left_after object (given ++ run)) accepted (subst IsSound (sym end) sound) (now_is_image (run_of (given ++ run) (opening object)).state)

pub crashes_explained : (options : CheckOptions) (program steps : List ℕ) (start : Start) (failure : Failure) (place : ℕ) → (check_start options program steps).told ≡ Ok start
    → IsReady start.machine → FailsBy failure.asked start.question start.machine failure.run failure.values → IsCrashExplained start failure place
crashes_explained options program steps start failure place told ready fails =
    crash_explained start failure place (begun options program steps start told) ready (run_accepted failure.asked start.question start.machine failure.run failure.values fails)
