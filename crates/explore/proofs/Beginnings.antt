-- The first steps of a run are a run.
use Rattle.std.proofs.Common.{◌≡◌, ℕ, zero, suc, ◌+◌, ◌<◌, ◌≤◌, Bool, true, false, None, Result, Ok, Err, List, [], ◌∷◌, ◌++◌, length, refl, ap, sym, subst, take, ◌∙◌, true≢false, arith, add-one}
use Rattle.std.specs.Prelude.{◌||◌, slice_index_or}
use Rattle.std.proofs.Math.Seq.{take-suc}
use Rattle.std.specs.List.{list_any}
use Rattle.machine.specs.declared.refusal.Refusal.{Refusal}
use Rattle.machine.specs.declared.step.Seen.{Seen}
use Rattle.machine.specs.declared.step.Step.{Step}
use Rattle.machine.specs.State.{State}
use Rattle.machine.specs.Steps.{end_after, run_of, step_of}
use Rattle.explore.specs.declared.question.Question.{Question}
use Rattle.explore.specs.declared.fault.ExploreFault.{ExploreFault}
use Rattle.explore.specs.declared.verdict.Verdict.{Verdict}
use Rattle.explore.specs.declared.verdict.Verdict.TheVariants.{Holds, Fails}
use Rattle.explore.specs.declared.visit.Stop.{Stop}
use Rattle.explore.specs.Apart.{AsksNoMore, IsOnTheWay, IsToldOfPart}
use Rattle.explore.specs.Found.{led_to}
use Rattle.explore.specs.Questions.{IsVerdict}
use Rattle.explore.specs.Reachable.{IsRun, is_crash}
use Rattle.explore.specs.Visits.{IsStop, IsStopOf}
use Rattle.explore.proofs.Visits.{path_then}

accepted_first : (k : ℕ) (steps : List Step) (s : State) → (run_of steps s).refusal ≡ None → (run_of (take k steps) s).refusal ≡ None
accepted_first zero steps s ok = refl
accepted_first (suc k) [] s ok = refl
accepted_first (suc k) (step ∷ steps) s ok = by (step_of s step) ok (accepted_first k steps)
  where
    by : (r : Result (Seen × State) Refusal) → (end_after s r (run_of steps)).refusal ≡ None → ((t : State) → (run_of steps t).refusal ≡ None → (run_of (take k steps) t).refusal ≡ None)
        → (end_after s r (run_of (take k steps))).refusal ≡ None
    by (Ok done) ok each = each done.1 ok
    by (Err refusal) ok each = absurd (cc)

crash_first : (k : ℕ) (steps : List Step) → list_any is_crash (take k steps) ≡ true → list_any is_crash steps ≡ true
crash_first zero steps any = absurd (true≢false (sym any))
crash_first (suc k) [] any = any
crash_first (suc k) (step ∷ steps) any = by (is_crash step) (crash_first k steps) any
  where
    by : (b : Bool) → (list_any is_crash (take k steps) ≡ true → list_any is_crash steps ≡ true) → (b || list_any is_crash (take k steps)) ≡ true → (b || list_any is_crash steps) ≡ true
    by true later any = refl
    by false later any = later any

run_first : (crashes : Bool) (k : ℕ) (run : List Step) (start : State) → IsRun crashes run start (led_to start run) → IsRun crashes (take k run) start (led_to start (take k run))
run_first crashes k run start is = record { accepted = accepted_first k run start is.accepted; leads = refl; crashing = λ any. is.crashing (crash_first k run any) }

-- so what ends an exploration there, does
pub stops_first : (question : Question) (start s : State) (run path : List Step) (k : ℕ) (stop : Stop) → path ≡ take k run → s ≡ led_to start path → IsStop question s path stop
    → IsRun question.crashes run start (led_to start run) → (limit : ℕ) → IsStopOf question start limit stop
stops_first question start s run path k stop same leads stops is limit =
    stops start limit (subst (λ (x : State). IsRun question.crashes path start x) (sym leads)
    (subst (λ (steps : List Step). IsRun question.crashes steps start (led_to start steps)) (sym same) (run_first question.crashes k run start is)))

-- ---- one step after another

pub goes_on : (start s t : State) (run items path longer : List Step) (k : ℕ) (d : Step) → items ≡ run → k < length items → IsOnTheWay start run k path s
    → longer ≡ path ++ slice_index_or items k d ∷ [] → t ≡ led_to s (slice_index_or items k d ∷ []) → IsOnTheWay start run (k + 1) longer t
goes_on start s t run items path longer k d same within on more now =
    let step = slice_index_or items k d in
    let one : take (k + 1) items ≡ take k items ++ step ∷ [] = rw (add-one k) (take-suc items k d within) in
    let whole : take (k + 1) run ≡ take k run ++ step ∷ [] = subst (λ (steps : List Step). take (k + 1) steps ≡ take k steps ++ step ∷ []) same one in record {
      first = more ∙ ap (λ (steps : List Step). steps ++ step ∷ []) on.first ∙ sym whole;
      leads = λ accepted.
          let before : (run_of path start).refusal ≡ None = subst (λ (steps : List Step). (run_of steps start).refusal ≡ None) (sym on.first) (accepted_first k run start accepted) in
          ap (led_to start) more ∙ (path_then start s path (step ∷ []) before (on.leads accepted)).1 ∙ sym now;
    }

take_past : (k : ℕ) (steps : List Step) → length steps ≤ k → take k steps ≡ steps
take_past zero [] past = refl
take_past (suc k) [] past = refl
take_past zero (step ∷ steps) past = absurd (omega (arith, past))
take_past (suc k) (step ∷ steps) past = ap (λ (more : List Step). step ∷ more) (take_past k steps (omega (arith, past)))

pub is_whole : (start s : State) (run items path : List Step) (k : ℕ) → items ≡ run → length items ≤ k → IsOnTheWay start run k path s → (run_of run start).refusal ≡ None
    → (path ≡ run) × (s ≡ led_to start run)
is_whole start s run items path k same past on accepted =
    let all : path ≡ run = on.first ∙ take_past k run (subst (λ (steps : List Step). length steps ≤ k) same past) in
    (all, sym (on.leads accepted) ∙ ap (led_to start) all)

-- ---- a question as a part of itself

pub asks_itself : (question : Question) → AsksNoMore question question
asks_itself question = record {
  crashes = refl;
  all = λ f is. (f, is, record { follows = λ value holds. holds; within = λ among tested. tested });
  ends = λ f is. is;
  recovered = λ f is. is;
  images = λ on. on;
}

pub told_of_itself : (question : Question) (start : State) (limit : ℕ) (result : Result Verdict ExploreFault) → IsToldOfPart question question start limit result → IsVerdict question start limit result
told_of_itself question start limit (Ok (Holds found)) told = told
told_of_itself question start limit (Ok (Fails failure)) told = told
told_of_itself question start limit (Err fault) told = told
