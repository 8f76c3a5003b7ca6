-- Runs that go on, and what is broken behind them.
use Rattle.std.proofs.Common.{◌≡◌, ◌∙◌, ◌||◌, ℕ, Bool, true, false, List, [], ◌∷◌, ◌++◌, None, Ok, refl, sym, ap, subst, true≢false}
use Rattle.std.specs.Prelude.{not}
use Rattle.std.specs.List.{list_any}
use Rattle.isa.specs.Objects.{Object}
use Rattle.machine.specs.declared.step.Seen.{Seen}
use Rattle.machine.specs.declared.step.Step.{Step}
use Rattle.machine.specs.Objects.{opening}
use Rattle.machine.specs.State.{State}
use Rattle.machine.specs.Steps.{run_of, step_of}
use Rattle.conditions.specs.Formulas.{Formula}
use Rattle.images.specs.Images.{IsImage, image_at}
use Rattle.images.specs.Truth.{holds_on}
use Rattle.explore.specs.declared.question.Question.{Question}
use Rattle.explore.specs.declared.verdict.Asked.{Asked}
use Rattle.explore.specs.declared.verdict.Asked.TheVariants.{All, Ends, Recovered}
use Rattle.explore.specs.Ends.{IsEnd, IsEndOf, all_run_as, holds_at}
use Rattle.explore.specs.Questions.{FailsBy, IsBroken, IsFalseEnd}
use Rattle.explore.specs.Reachable.{IsReachable, IsRun, is_crash}
use Rattle.explore.specs.Sound.{IsSound}
use Rattle.explore.proofs.Visits.{longer_run, one_step, path_then}
use Rattle.verdicts.specs.Verdicts.{HasFalseImage, IsBrokenBy, MakesFalse}
use Rattle.replays.specs.Followed.{GoesOn}

-- ---- a machine goes on

pub goes_nowhere : (crashes : Bool) (s : State) → GoesOn crashes s s
goes_nowhere crashes s = record { reached = λ start reached. reached }

pub goes_further : (crashes : Bool) (s t u : State) → GoesOn crashes s t → GoesOn crashes t u → GoesOn crashes s u
goes_further crashes s t u one other = record { reached = λ start reached. other.reached start (one.reached start reached) }

first_any : (step : Step) → list_any is_crash (step ∷ []) ≡ true → is_crash step ≡ true
first_any step any = by_case (is_crash step) any
  where
    by_case : (b : Bool) → (b || false) ≡ true → b ≡ true
    by_case true e = refl
    by_case false e = e

pub goes_by_a_step : (crashes : Bool) (s t : State) (step : Step) (seen : Seen) → (is_crash step ≡ true → crashes ≡ true) → step_of s step ≡ Ok (seen, t) → GoesOn crashes s t
goes_by_a_step crashes s t step seen asked accepted = record {
  reached = λ start reached. let path = reached.0 in
      let ran = reached.1 in
      let more : List Step = step ∷ [] in
      let one = one_step s t step seen accepted in
      let joined = longer_run crashes start s path more ran (λ any. asked (first_any step any)) one.0 in (
        path ++ more,
        record {
          accepted = joined.accepted;
          leads = (path_then start s path more ran.accepted ran.leads).1 ∙ one.1;
          crashing = joined.crashing;
        },
      );
}

-- ---- what is broken

-- a run that goes on from a state that a run reaches
joined_run : (crashes : Bool) (start s : State) (path run : List Step) → IsRun crashes path start s → IsRun crashes run s (run_of run s).state
    → IsRun crashes (path ++ run) start (run_of (path ++ run) start).state × ((run_of run s).state ≡ (run_of (path ++ run) start).state)
joined_run crashes start s path run ran more =
    (longer_run crashes start s path run ran more.crashing more.accepted, sym (path_then start s path run ran.accepted ran.leads).1)

not_true : (b : Bool) → not b ≡ true → b ≡ false
not_true true e = absurd (true≢false (sym e))
not_true false e = refl

false_end : (crashes recovered : Bool) (condition : Formula) (start s : State) (path run : List Step) (values : List ℕ) → IsRun crashes path start s
    → IsFalseEnd crashes recovered condition s run values → IsFalseEnd crashes recovered condition start (path ++ run) values
false_end crashes recovered condition start s path run values ran broken =
    let joined = joined_run crashes start s path run ran broken.is_run in
    let same = joined.1 in record {
      is_run = joined.0;
      end = record {
        reached = (path ++ run, joined.0);
        end = subst IsEnd same broken.end.end;
        mode = subst (λ (t : State). all_run_as recovered t.processors ≡ true) same broken.end.mode;
      };
      false_there = subst (λ (t : State). holds_at condition t ≡ false) same broken.false_there;
      shown = broken.shown ∙ ap (λ (t : State). image_at t.shape t.memory.persisted) same;
    }

false_image : (crashes : Bool) (condition : Formula) (start s : State) (path run : List Step) (values : List ℕ) → IsRun crashes path start s → IsRun crashes run s (run_of run s).state
    → IsImage (run_of run s).state values → holds_on (run_of run s).state condition values ≡ false → HasFalseImage crashes condition start (path ++ run) values
false_image crashes condition start s path run values ran more there false_there =
    let joined = joined_run crashes start s path run ran more in
    let same = joined.1 in record {
      is_run = joined.0;
      image_there = subst (λ (t : State). IsImage t values) same there;
      false_there = subst (λ (t : State). holds_on t condition values ≡ false) same false_there;
    }

-- What makes a condition false from a state that a run of a program reaches, does so from the first state, behind that run.
makes_false : (asked : Asked) (question : Question) (object : Object) (s : State) (path run : List Step) (values : List ℕ) → IsRun question.crashes path (opening object) s
    → FailsBy asked question s run values → MakesFalse asked question object (path ++ run) values
makes_false All question object s path run values ran (condition, is, broken) =
    (condition, is, false_image question.crashes condition (opening object) s path run values ran broken.is_run broken.least.0 (not_true _ broken.least.1))
makes_false Ends question object s path run values ran (condition, is, broken) =
    (condition, is, false_end question.crashes false condition (opening object) s path run values ran broken)
makes_false Recovered question object s path run values ran (condition, is, broken) =
    (condition, is, false_end question.crashes true condition (opening object) s path run values ran broken)

pub broken_behind : (asked : Asked) (question : Question) (object : Object) (s : State) (run : List Step) (values : List ℕ)
    → IsReachable question.crashes (opening object) s → FailsBy asked question s run values → IsBrokenBy question object
broken_behind asked question object s run values (path, ran) fails = (asked, path ++ run, values, makes_false asked question object s path run values ran fails)

-- A state that a run reaches is sound, where each that steps lead to is.
pub sound_by : (crashes : Bool) (object : Object) (s : State) → ((steps : List Step) → IsSound (run_of steps (opening object)).state) → IsReachable crashes (opening object) s → IsSound s
sound_by crashes object s sound (path, ran) = subst IsSound ran.leads (sound path)
