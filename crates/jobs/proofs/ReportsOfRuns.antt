-- What the reports say of runs.
use Rattle.std.proofs.Common.{◌≡◌, ◌∙◌, ◌⊎◌, ◌||◌, ◌++◌, if◌then◌else◌, ℕ, Bool, true, false, inl, inr, Option, Some, None, Result, Ok, Err, List, [], ◌∷◌, refl, sym, ap, subst, arith, append_assoc, true≢false}
use Rattle.std.proofs.lemmas.Bool.Decides.{nat_tests}
use Rattle.std.specs.Prelude.{is_some, length}
use Rattle.machine.specs.Objects.{opening}
use Rattle.machine.specs.State.{State}
use Rattle.machine.specs.Steps.{run_of}
use Rattle.isa.specs.Objects.{Object}
use Rattle.conditions.specs.Formulas.{Formula}
use Rattle.commands.specs.Programs.{lined_work, state_after}
use Rattle.litmus_text.specs.declared.text_lines.LinedObject.{LinedObject}
use Rattle.commands.specs.Works.{◌>>=◌, Work, and_then, done, told_after}
use Rattle.lines_layout.specs.Names.{Text}
use Rattle.commands.specs.ImageTexts.{images_text, names_shown}
use Rattle.explore.specs.Ends.{IsEndOf}
use Rattle.explore.specs.Findings.{Findings}
use Rattle.explore.specs.Outcomes.{AreOutcomes, outcome_of}
use Rattle.explore.specs.declared.fault.ExploreFault.{ExploreFault}
use Rattle.explore.specs.declared.question.Question.{Question}
use Rattle.explore.specs.declared.verdict.Asked.{Asked}
use Rattle.explore.specs.declared.verdict.Asked.TheVariants.{All, Ends, Recovered}
use Rattle.explore.specs.declared.verdict.Verdict.{Verdict}
use Rattle.explore.specs.declared.verdict.Verdict.TheVariants.{Holds, Fails}
use Rattle.explore.specs.Questions.{FailsBy, IsAnswered, IsVerdict}
use Rattle.machine.specs.declared.step.Step.{Step}
use Rattle.commands.specs.declared.fault.Refused.{Refused}
use Rattle.commands.specs.declared.jobs.CheckOptions.{CheckOptions}
use Rattle.commands.specs.declared.jobs.OutcomesOptions.{OutcomesOptions}
use Rattle.commands.specs.declared.status.Status.TheVariants.{Done, Unmet}
use Rattle.commands.specs.Serving.{Report}
use Rattle.jobs.specs.declared.start.Start.{Start}
use Rattle.jobs.specs.CheckReports.{IsAskedOfNone, IsAskedOfSome, IsListOfImages, IsToldFalse, IsToldWhy, MayReport, counts_text, found_status, found_text, held_report, held_text, images_shown, is_idle, never_texts}
use Rattle.jobs.specs.OutcomeReports.{IsListOfEnds, outcomes_report}
use Rattle.jobs.specs.Given.{Given}
use Rattle.jobs.specs.Starts.{IsTold, IsToldOf, exactly, given_work, no_condition, outcomes_start, start_on}

done_by : (options : CheckOptions) (start : Start) (report : Report) (verdict : Result Verdict ExploreFault) → IsVerdict start.question start.machine options.states verdict
    → IsToldOf (MayReport options) start verdict (Ok report) → report.status ≡ Done → IsAnswered start.question start.machine
done_by options start report (Ok (Holds found)) is same done = is.answered
done_by options start report (Ok (Fails failure)) is (told, why, same) done =
    let unmet : report.status ≡ Unmet = ap (λ (r : Report). r.status) same in
    absurd (cc)
done_by options start report (Err fault) is same done = absurd (cc)

pub done_told : (options : CheckOptions) (start : Start) (report : Report) → IsTold (MayReport options) options.states start (Ok report) → report.status ≡ Done
    → IsAnswered start.question start.machine
done_told options start report (ready, (verdict, is, same)) done = done_by options start report verdict is same done

-- an end for each outcome
some_end : (crashes recovered : Bool) (start : State) (outcomes : List (List ℕ)) → AreOutcomes crashes recovered start outcomes → (length outcomes ≡ 0 → ⊥) → (t : State) × IsEndOf crashes recovered start t
some_end crashes recovered start [] are filled = absurd (filled refl)
some_end crashes recovered start (x ∷ outcomes) are filled = let (t, end, shown) = (are.exact x).0 (0, omega arith, refl) in (t, end)

not_idle : (n : ℕ) → is_idle true n ≡ false → n ≡ 0 → ⊥
not_idle n idle none = grind (arith, nat_tests, idle, none)

asked_some : (crashes recovered : Bool) (start : State) (asked : Option Formula) (outcomes : List (List ℕ)) → AreOutcomes crashes recovered start outcomes
    → is_idle (is_some asked) (length outcomes) ≡ false → IsAskedOfSome crashes recovered asked start
asked_some crashes recovered start (Some condition) outcomes are busy is = some_end crashes recovered start outcomes are (not_idle (length outcomes) busy)
asked_some crashes recovered start None outcomes are busy is = absurd (cc)

both_busy : (a b : Bool) → (if a || b then Unmet else Done) ≡ Done → (a ≡ false) × (b ≡ false)
both_busy true b e = absurd (cc)
both_busy false true e = absurd (cc)
both_busy false false e = (refl, refl)

some_by : (options : CheckOptions) (start : Start) (report : Report) (verdict : Result Verdict ExploreFault) → IsVerdict start.question start.machine options.states verdict
    → IsToldOf (MayReport options) start verdict (Ok report) → report.status ≡ Done
    → IsAskedOfSome start.question.crashes false start.question.ends start.machine × IsAskedOfSome start.question.crashes true start.question.recovered start.machine
some_by options start report (Ok (Holds found)) is same done =
    let status_is : found_status start.question found ≡ Done = sym (ap (λ (r : Report). r.status) same) ∙ done in
    let busy = both_busy (is_idle (is_some start.question.ends) (length found.ends)) (is_idle (is_some start.question.recovered) (length found.recovered)) status_is in (
      asked_some start.question.crashes false start.machine start.question.ends found.ends is.ends busy.0,
      asked_some start.question.crashes true start.machine start.question.recovered found.recovered is.recovered busy.1,
    )
some_by options start report (Ok (Fails failure)) is (told, why, same) done =
    let unmet : report.status ≡ Unmet = ap (λ (r : Report). r.status) same in
    absurd (cc)
some_by options start report (Err fault) is same done = absurd (cc)

pub done_some : (options : CheckOptions) (start : Start) (report : Report) → IsTold (MayReport options) options.states start (Ok report) → report.status ≡ Done
    → IsAskedOfSome start.question.crashes false start.question.ends start.machine × IsAskedOfSome start.question.crashes true start.question.recovered start.machine
done_some options start report (ready, (verdict, is, same)) done = some_by options start report verdict is same done

no_failure : (crashes : Bool) (asked : Asked) (s : State) (run : List Step) (values : List ℕ) → FailsBy asked (no_condition crashes) s run values → ⊥
no_failure crashes All s run values (condition, is, broken) = absurd (cc)
no_failure crashes Ends s run values (condition, is, broken) = absurd (cc)
no_failure crashes Recovered s run values (condition, is, broken) = absurd (cc)

module _ (states : ℕ) (start : Start) (report : Report) where
  listed_by : (recovered : Bool) (verdict : Result Verdict ExploreFault) → IsVerdict (no_condition recovered) start.machine states verdict
      → IsToldOf (exactly (outcomes_report (record { recovered = recovered; states = states }))) start verdict (Ok report) → IsListOfEnds recovered start report
  listed_by true (Ok (Holds found)) is same =
      (found.recovered, is.recovered, ap (λ (r : Report). r.text) same)
  listed_by false (Ok (Holds found)) is same =
      (found.ends, is.ends, ap (λ (r : Report). r.text) same)
  listed_by recovered (Ok (Fails failure)) is same = absurd (no_failure recovered failure.asked start.machine failure.run failure.values is)
  listed_by recovered (Err fault) is same = absurd (cc)

-- `outcomes` asks no condition
module _ (question : Question) (start : Start) where
  abbrev begun : Object → Given → State → Work Start
  begun object given machine = done (record { object = object; question = question; machine = machine; given = given })

  asked_by_state : (object : Object) (given : Given) (state : Result State Refused) → told_after state (begun object given) ≡ Ok start → start.question ≡ question
  unfolding done
  asked_by_state object given (Ok machine) is =
      let same : record { object = object; question = question; machine = machine; given = given } ≡ start = cc in
      sym (ap (λ (s : Start). s.question) same)
  asked_by_state object given (Err refused) is = absurd (cc)

  asked_by_given : (object : Object) (given : Result Given Refused) → told_after given (start_on object question) ≡ Ok start → start.question ≡ question
  unfolding and_then
  asked_by_given object (Ok given) is = asked_by_state object given (state_after (run_of given.steps (opening object))) is
  asked_by_given object (Err refused) is = absurd (cc)

abbrev given_and_started : OutcomesOptions → List ℕ → LinedObject → Work Start
given_and_started options steps lined = given_work lined.lines steps >>= start_on lined.object (no_condition options.recovered)

asked_by : (options : OutcomesOptions) (steps : List ℕ) (read : Result LinedObject Refused) (start : Start)
    → told_after read (given_and_started options steps) ≡ Ok start → start.question ≡ no_condition options.recovered
unfolding and_then
asked_by options steps (Ok lined) start is = asked_by_given (no_condition options.recovered) start lined.object (given_work lined.lines steps).told is
asked_by options steps (Err refused) start is = absurd (cc)

pub listed_told : (options : OutcomesOptions) (program steps : List ℕ) (start : Start) (report : Report) → (outcomes_start options program steps).told ≡ Ok start
    → IsTold (exactly (outcomes_report options)) options.states start (Ok report) → IsListOfEnds options.recovered start report
unfolding and_then
listed_told options program steps start report begins (ready, (verdict, is, same)) =
    let asked : start.question ≡ no_condition options.recovered = asked_by options steps (lined_work program).told start begins in
    listed_by options.states start report options.recovered verdict (subst (λ (q : Question). IsVerdict q start.machine options.states verdict) asked is) same

-- ---- not met

idle_is : (asked : Bool) (n : ℕ) → is_idle asked n ≡ true → (asked ≡ true) × (n ≡ 0)
idle_is true n is = (refl, grind (arith, nat_tests, is))
idle_is false n is = absurd (cc)

no_end : (crashes recovered : Bool) (start : State) (outcomes : List (List ℕ)) → AreOutcomes crashes recovered start outcomes → length outcomes ≡ 0
    → (t : State) → IsEndOf crashes recovered start t → ⊥
no_end crashes recovered start outcomes are none t end =
    let (k, below, is) = (are.exact (outcome_of t)).1 (t, end, refl) in absurd (omega (arith, none, below))

idle_told : (crashes recovered : Bool) (start : State) (asked : Option Formula) (outcomes : List (List ℕ)) → AreOutcomes crashes recovered start outcomes
    → is_idle (is_some asked) (length outcomes) ≡ true → IsAskedOfNone crashes recovered asked start
idle_told crashes recovered start asked outcomes are idle =
    let both = idle_is (is_some asked) (length outcomes) idle in
    (both.0, no_end crashes recovered start outcomes are both.1)

by_status : (a b : Bool) → (if a || b then Unmet else Done) ≡ Unmet → (a ≡ true) ⊎ (b ≡ true)
by_status true b is = inl refl
by_status false true is = inr refl
by_status false false is = absurd (cc)

unmet_by : (options : CheckOptions) (start : Start) (report : Report) (verdict : Result Verdict ExploreFault) → IsVerdict start.question start.machine options.states verdict
    → IsToldOf (MayReport options) start verdict (Ok report) → report.status ≡ Unmet → IsToldWhy options start report
unmet_by options start report (Ok (Holds found)) is same unmet =
    let text_is : report.text ≡ held_report options start found = ap (λ (r : Report). r.text) same in
    let status_is : found_status start.question found ≡ Unmet = sym (ap (λ (r : Report). r.status) same) ∙ unmet in
    elim (by_status (is_idle (is_some start.question.ends) (length found.ends)) (is_idle (is_some start.question.recovered) (length found.recovered)) status_is) [
      | inl ends ↦
          inr (
            found,
            text_is,
            is.answered,
            inl (
              idle_told start.question.crashes false start.machine start.question.ends found.ends is.ends ends,
              (idle_is (is_some start.question.ends) (length found.ends) ends).1,
            ),
          )
      | inr recovered ↦
          inr (
            found,
            text_is,
            is.answered,
            inr (
              idle_told start.question.crashes true start.machine start.question.recovered found.recovered is.recovered recovered,
              (idle_is (is_some start.question.recovered) (length found.recovered) recovered).1,
            ),
          )
    ]
unmet_by options start report (Ok (Fails failure)) is (told, why, same) unmet =
    inl (failure, is, (told, why, ap (λ (r : Report). r.text) same))
unmet_by options start report (Err fault) is same unmet = absurd (cc)

pub unmet_told : (options : CheckOptions) (start : Start) (report : Report) → IsTold (MayReport options) options.states start (Ok report) → report.status ≡ Unmet
    → IsToldWhy options start report
unmet_told options start report (ready, (verdict, is, same)) unmet = unmet_by options start report verdict is same unmet

-- ---- the images

-- what is shown after three texts, where it is asked for, ends with the images
ends_with_images : (start : Start) (found : Findings) (named asked : Bool) (a b c : Text) → asked ≡ true
    → (before : Text) × (a ++ (b ++ (c ++ images_shown asked named start.object.layout found.images)) ≡ before ++ images_text found.images)
ends_with_images start found named true a b c is =
    let names = names_shown named start.object.layout in
    let all = images_text found.images in (
      a ++ (b ++ (c ++ names)),
      sym (append_assoc a (b ++ (c ++ names)) all ∙ ap (λ (x : Text). a ++ x) (append_assoc b (c ++ names) all ∙ ap (λ (x : Text). b ++ x) (append_assoc c names all))),
    )
ends_with_images start found named false a b c is = absurd (true≢false (sym is))

shown_by : (options : CheckOptions) (start : Start) (found : Findings) → start.question.images ≡ true → options.as_steps ≡ false
    → (before : Text) × (held_report options start found ≡ before ++ images_text found.images)
shown_by options start found asked whole =
    let (before, is) = ends_with_images start found options.names start.question.images (held_text start.question found) (counts_text start.question.crashes found)
    (never_texts start.object.layout found start.question.crashes 0 start.object.processors) asked in
    (before, ap (λ (b : Bool). if b then [] else found_text options.names start found) whole ∙ is)

images_by : (options : CheckOptions) (start : Start) (report : Report) (verdict : Result Verdict ExploreFault) → IsVerdict start.question start.machine options.states verdict
    → IsToldOf (MayReport options) start verdict (Ok report) → start.question.images ≡ true → options.as_steps ≡ false → IsToldFalse options start report ⊎ IsListOfImages start report
images_by options start report (Ok (Holds found)) is same asked whole =
    let (before, shown) = shown_by options start found asked whole in
    inr (before, found.images, is.images asked, ap (λ (r : Report). r.text) same ∙ shown)
images_by options start report (Ok (Fails failure)) is (told, why, same) asked whole =
    inl (failure, is, (told, why, ap (λ (r : Report). r.text) same))
images_by options start report (Err fault) is same asked whole = absurd (cc)

pub images_told : (options : CheckOptions) (start : Start) (report : Report) → IsTold (MayReport options) options.states start (Ok report) → start.question.images ≡ true
    → options.as_steps ≡ false → IsToldFalse options start report ⊎ IsListOfImages start report
images_told options start report (ready, (verdict, is, same)) asked whole = images_by options start report verdict is same asked whole
