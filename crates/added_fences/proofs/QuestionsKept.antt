-- What breaks a program with something put in breaks the same without it; and what all runs of the latter keep, all runs of the former keep.
use Rattle.std.proofs.Common.{◌≡◌, ℕ, Bool, true, false, List, sym, ◌∙◌}
use Rattle.isa.specs.Objects.{Object}
use Rattle.machine.specs.declared.step.Step.{Step}
use Rattle.machine.specs.Objects.{IsLoadable, opening}
use Rattle.machine.specs.State.{State}
use Rattle.machine.specs.Steps.{run_of}
use Rattle.conditions.specs.Formulas.{Formula}
use Rattle.images.specs.Images.{image_at}
use Rattle.explore.specs.declared.question.Question.{Question}
use Rattle.explore.specs.declared.verdict.Asked.{Asked}
use Rattle.explore.specs.declared.verdict.Asked.TheVariants.{All, Ends, Recovered}
use Rattle.explore.specs.Ends.{IsEndOf, IsTrueAtEnds}
use Rattle.explore.specs.Outcomes.{outcome_of}
use Rattle.explore.specs.Questions.{IsFalseEnd}
use Rattle.explore.specs.Reachable.{IsAlwaysKept, IsReachable, IsRun}
use Rattle.explore.specs.RunImages.{IsImageOfRuns}
use Rattle.verdicts.specs.Verdicts.{HasFalseImage, IsBrokenBy, IsKeptBy, MakesFalse}
use Rattle.added_fences.specs.Added.{AreAdded}
use Rattle.added_fences.specs.Traced.{IsRunToo}
use Rattle.added_fences.proofs.EndsKept.{end_kept, image_kept, mode_kept, outcome_kept}
use Rattle.added_fences.proofs.LeanerRuns.{run_traced}
use Rattle.added_fences.proofs.Openings.{opened}
use Rattle.added_fences.proofs.ValuesStay.{holds_in_same, holds_on_same}

module _ (more less : Object) (loadable : IsLoadable more) (h : AreAdded more less) where
  pub run_too : (crashes : Bool) (steps : List Step) (t : State) → IsRun crashes steps (opening more) t → IsRunToo crashes steps (opening less) t
  run_too crashes steps t run = run_traced crashes (opening more) (opening less) t steps (opened more less loadable h) run

  reached_by : (crashes : Bool) (end : State) (steps : List Step) (r : IsRunToo crashes steps (opening less) end) → IsReachable crashes (opening less) (run_of r.fewer (opening less)).state
  reached_by crashes end steps r = (r.fewer, r.run)

  end_too : (crashes recovered : Bool) (t : State) (steps : List Step) (r : IsRunToo crashes steps (opening less) t) → IsEndOf crashes recovered (opening more) t
      → IsEndOf crashes recovered (opening less) (run_of r.fewer (opening less)).state
  end_too crashes recovered t steps r end = record {
    reached = reached_by crashes t steps r;
    end = end_kept t (run_of r.fewer (opening less)).state r.leaner end.end;
    mode = mode_kept recovered t (run_of r.fewer (opening less)).state r.leaner end.mode;
  }

  pub image_of_runs_too : (crashes : Bool) (image : List ℕ) → IsImageOfRuns crashes (opening more) image → IsImageOfRuns crashes (opening less) image
  image_of_runs_too crashes image (t, (steps, run), there) =
      let r = run_too crashes steps t run in
      let u : State = (run_of r.fewer (opening less)).state in
      (u, reached_by crashes t steps r, image_kept t u image r.leaner there)

  pub end_of_runs_too : (crashes recovered : Bool) (t : State) → IsEndOf crashes recovered (opening more) t → (u : State) × IsEndOf crashes recovered (opening less) u × (outcome_of u ≡ outcome_of t)
  end_of_runs_too crashes recovered t end =
      let (steps, run) = end.reached in
      let r = run_too crashes steps t run in
      let u : State = (run_of r.fewer (opening less)).state in
      (u, end_too crashes recovered t steps r end, outcome_kept t u r.leaner)

  -- ---- what breaks a question

  false_image : (crashes : Bool) (condition : Formula) (run : List Step) (image : List ℕ) → HasFalseImage crashes condition (opening more) run image
      → (fewer : List Step) × HasFalseImage crashes condition (opening less) fewer image
  false_image crashes condition run image f =
      let t : State = (run_of run (opening more)).state in
      let r = run_too crashes run t f.is_run in
      let u : State = (run_of r.fewer (opening less)).state in (
        r.fewer,
        record {
          is_run = r.run;
          image_there = image_kept t u image r.leaner f.image_there;
          false_there = holds_on_same t u r.leaner image condition ∙ f.false_there;
        },
      )

  false_end : (crashes recovered : Bool) (condition : Formula) (run : List Step) (values : List ℕ) → IsFalseEnd crashes recovered condition (opening more) run values
      → (fewer : List Step) × IsFalseEnd crashes recovered condition (opening less) fewer values
  false_end crashes recovered condition run values f =
      let t : State = (run_of run (opening more)).state in
      let r = run_too crashes run t f.is_run in
      let u : State = (run_of r.fewer (opening less)).state in (
        r.fewer,
        record {
          is_run = r.run;
          end = end_too crashes recovered t run r f.end;
          false_there = holds_in_same t u r.leaner condition ∙ f.false_there;
          shown = f.shown ∙ (λ i. image_at (sym r.leaner.shape i) (sym r.leaner.memory.persisted i));
        },
      )

  broken_by : (question : Question) (asked : Asked) (run : List Step) (values : List ℕ) → MakesFalse asked question more run values → IsBrokenBy question less
  broken_by question All run values (condition, is, f) =
      let too = false_image question.crashes condition run values f in (All, too.0, values, (condition, is, too.1))
  broken_by question Ends run values (condition, is, f) =
      let too = false_end question.crashes false condition run values f in (Ends, too.0, values, (condition, is, too.1))
  broken_by question Recovered run values (condition, is, f) =
      let too = false_end question.crashes true condition run values f in (Recovered, too.0, values, (condition, is, too.1))

  pub broken_too : (question : Question) → IsBrokenBy question more → IsBrokenBy question less
  broken_too question (asked, run, values, f) = broken_by question asked run values f

  -- ---- what holds

  always_kept : (crashes : Bool) (condition : Formula) → IsAlwaysKept crashes condition (opening less) → IsAlwaysKept crashes condition (opening more)
  always_kept crashes condition kept t (steps, run) image there =
      let r = run_too crashes steps t run in
      let u : State = (run_of r.fewer (opening less)).state in
      sym (holds_on_same t u r.leaner image condition) ∙ kept u (reached_by crashes t steps r) image (image_kept t u image r.leaner there)

  true_at_ends : (crashes recovered : Bool) (condition : Formula) → IsTrueAtEnds crashes recovered condition (opening less) → IsTrueAtEnds crashes recovered condition (opening more)
  true_at_ends crashes recovered condition kept t end =
      let (steps, run) = end.reached in
      let r = run_too crashes steps t run in
      let u : State = (run_of r.fewer (opening less)).state in
      sym (holds_in_same t u r.leaner condition) ∙ kept u (end_too crashes recovered t steps r end)

  pub kept_too : (question : Question) → IsKeptBy question less → IsKeptBy question more
  kept_too question kept = record {
    all = λ condition is. always_kept question.crashes condition (kept.all condition is);
    ends = λ condition is. true_at_ends question.crashes false condition (kept.ends condition is);
    recovered = λ condition is. true_at_ends question.crashes true condition (kept.recovered condition is);
  }
