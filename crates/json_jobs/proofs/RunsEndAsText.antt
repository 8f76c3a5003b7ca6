-- The commands that explore every run end the same as JSON and as text.
use Rattle.std.proofs.Common.{◌≡◌, ℕ, inl, inr, Result, Ok, Err, List, ◌∙◌, ap, refl, sym}
use Rattle.explore.specs.declared.verdict.Failure.{Failure}
use Rattle.explore.specs.declared.verdict.Verdict.{Verdict}
use Rattle.explore.specs.Findings.{Findings}
use Rattle.explore.specs.declared.verdict.Verdict.TheVariants.{Holds, Fails}
use Rattle.commands.specs.declared.fault.Fault.{Fault}
use Rattle.commands.specs.declared.fault.Fault.TheVariants as faults
use Rattle.commands.specs.declared.jobs.CheckOptions.{CheckOptions}
use Rattle.commands.specs.declared.jobs.OutcomesOptions.{OutcomesOptions}
use Rattle.commands.specs.declared.status.Status.{Status}
use Rattle.commands.specs.Serving.{Report}
use Rattle.commands.specs.Works.{MakesOneOf, Work}
use Rattle.jobs.specs.declared.explained.Explained.{Explained}
use Rattle.jobs.specs.declared.start.Start.{Start}
use Rattle.jobs.specs.CheckReports as texts
use Rattle.jobs.specs.OutcomeReports as outcome_texts
use Rattle.jobs.specs.RunCommands as text_commands
use Rattle.jobs.specs.RunCommands.{exploring, Explores}
use Rattle.jobs.specs.Starts.{check_start, exactly, IsTold, outcomes_start}
use Rattle.json_jobs.specs.RunReports as values
use Rattle.json_jobs.specs.SameStatuses.{MayEndAlike, MayEndAs, status_made}

-- ---- the reports of a verdict

-- as JSON and as text
pub same_found : (options : CheckOptions) (start : Start) (found : Findings)
    → (values.found_report start found).status ≡ (texts.found_report options start found).status
same_found options start found = refl

pub same_failed : (options : CheckOptions) (start : Start) (failure : Failure) (told : Explained)
    → (values.failed_report options start failure told).status ≡ (texts.failed_report options start failure told).status
same_failed options start failure told = refl

-- ---- what is made of a start

-- For what one allows, the other allows a report with the same status.
abbrev Allows : (Start → Verdict → Report → Type 0) → (Start → Verdict → Report → Type 0) → Type 0
Allows may other =
    (start : Start) (verdict : Verdict) (report : Report) → may start verdict report → (also : Report) × other start verdict also × (also.status ≡ report.status)

module _ (may other : Start → Verdict → Report → Type 0) (allows : Allows may other) (states : ℕ) (start : Start) where
  told_too : (report : Report) → IsTold may states start (Ok report) → (also : Report) × IsTold other states start (Ok also) × (also.status ≡ report.status)
  told_too report (ready, (Ok verdict, is, told)) = let (also, told_also, same) = allows start verdict report told in (also, (ready, (Ok verdict, is, told_also)), same)
  told_too report (ready, (Err fault, is, told)) = absurd (cc)

  refused_too : (fault : Fault) → IsTold may states start (Err fault) → IsTold other states start (Err fault)
  refused_too fault (ready, (Ok verdict, is, told)) = absurd told
  refused_too fault (ready, (Err why, is, told)) = (ready, (Err why, is, told))

  abbrev done_with : Status → Result Status Fault
  done_with status = Ok status

  -- what is told of the runs, or that memory runs out
  abbrev AlsoMade : Result Report Fault → Type 0
  AlsoMade made = (also : Result Report Fault) × Explores other states start also × (status_made also ≡ status_made made)

  pub explored_too : (made : Result Report Fault) → Explores may states start made → AlsoMade made
  unfolding MakesOneOf
  explored_too (Ok report) is = let (also, told, same) = told_too report is in (Ok also, told, ap done_with same)
  explored_too (Err (faults.Refused refused)) is = (Err (faults.Refused refused), refused_too (faults.Refused refused) is, refl)
  explored_too (Err (faults.Missing missing)) is = (Err (faults.Missing missing), is, refl)
  explored_too (Err (faults.Device device)) is = absurd is

-- ---- whole commands

module _ (begins : List ℕ → List ℕ → Work Start) (may other : Start → Verdict → Report → Type 0) (allows : Allows may other) (states : ℕ) where
  pub exploring_too : MayEndAs (exploring begins may states) (exploring begins other states)
  exploring_too both made (inl (start, begun, explored)) =
      let (also, told, same) = explored_too may other allows states start made explored in
      (also, inl (start, begun, told), same)
  exploring_too both made (inr failed) = (made, inr failed, refl)

-- For the one report the other allows its own, if both have one status.
listed_too : (json text : Start → Verdict → Report) → ((start : Start) (verdict : Verdict) → (text start verdict).status ≡ (json start verdict).status)
    → Allows (exactly json) (exactly text)
listed_too json text same start verdict report is = (text start verdict, refl, same start verdict ∙ sym (ap (λ (r : Report). r.status) is))

-- ---- outcomes

outcomes_too : (options : OutcomesOptions) → MayEndAs (values.outcomes_command options) (text_commands.outcomes_command options)
unfolding values.outcomes_command text_commands.outcomes_command
outcomes_too options =
    exploring_too (outcomes_start options) (exactly (values.outcomes_report options.recovered)) (exactly (outcome_texts.outcomes_report options))
    (listed_too (values.outcomes_report options.recovered) (outcome_texts.outcomes_report options) (λ start verdict. refl)) options.states

outcomes_again : (options : OutcomesOptions) → MayEndAs (text_commands.outcomes_command options) (values.outcomes_command options)
unfolding values.outcomes_command text_commands.outcomes_command
outcomes_again options =
    exploring_too (outcomes_start options) (exactly (outcome_texts.outcomes_report options)) (exactly (values.outcomes_report options.recovered))
    (listed_too (outcome_texts.outcomes_report options) (values.outcomes_report options.recovered) (λ start verdict. refl)) options.states

pub outcomes_alike : (options : OutcomesOptions) → MayEndAlike (values.outcomes_command options) (text_commands.outcomes_command options)
unfolding values.outcomes_command text_commands.outcomes_command
outcomes_alike options = record { reads_steps = refl; as_text = outcomes_too options; as_json = outcomes_again options }

-- ---- check

abbrev status_is : {report other : Report} → report ≡ other → other.status ≡ report.status
status_is same = sym (ap (λ (r : Report). r.status) same)

as_text : (options : CheckOptions) → Allows (values.MayReport options) (texts.MayReport options)
as_text options start (Holds found) report is = (texts.found_report options start found, refl, status_is is)
as_text options start (Fails failure) report (told, explains, is) = (texts.failed_report options start failure told, (told, explains, refl), status_is is)

as_json : (options : CheckOptions) → Allows (texts.MayReport options) (values.MayReport options)
as_json options start (Holds found) report is = (values.found_report start found, refl, status_is is)
as_json options start (Fails failure) report (told, explains, is) = (values.failed_report options start failure told, (told, explains, refl), status_is is)

check_too : (options : CheckOptions) → MayEndAs (values.check_command options) (text_commands.check_command options)
unfolding values.check_command text_commands.check_command
check_too options = exploring_too (check_start options) (values.MayReport options) (texts.MayReport options) (as_text options) options.states

check_again : (options : CheckOptions) → MayEndAs (text_commands.check_command options) (values.check_command options)
unfolding values.check_command text_commands.check_command
check_again options = exploring_too (check_start options) (texts.MayReport options) (values.MayReport options) (as_json options) options.states

pub check_alike : (options : CheckOptions) → MayEndAlike (values.check_command options) (text_commands.check_command options)
unfolding values.check_command text_commands.check_command
check_alike options = record { reads_steps = refl; as_text = check_too options; as_json = check_again options }
