-- Each run of a state is traced from a leaner one.
use Rattle.std.proofs.Common.{◌≡◌, Bool, true, false, true≢false, None, Result, Ok, Err, List, [], ◌∷◌, refl, sym, ◌∙◌, ap, subst, inl, inr}
use Rattle.std.specs.Prelude.{◌||◌}
use Rattle.std.specs.List.{list_any}
use Rattle.machine.specs.declared.refusal.Refusal.{Refusal}
use Rattle.machine.specs.declared.step.Seen.{Seen}
use Rattle.machine.specs.declared.step.Step.{Step}
use Rattle.machine.specs.declared.step.Step.TheVariants.{Exec, Drain, Persist, Settle, Crash}
use Rattle.machine.specs.State.{State}
use Rattle.machine.specs.Steps.{end_after, run_of, step_of}
use Rattle.explore.specs.Reachable.{IsRun, is_crash}
use Rattle.fewer_fences.specs.Followed.{IsLike}
use Rattle.added_fences.specs.Added.{IsLeaner}
use Rattle.added_fences.specs.Traced.{AreSomeSteps, IsMadeToo, IsRunToo, IsSpared, IsTraced, may_be_spared}
use Rattle.added_fences.proofs.LeanerSteps.{traced}

-- steps that lead to a state, and fewer from another one
record RunsToo (steps : List Step) (less t : State) : Type 0 where
  fewer : List Step
  are_some : AreSomeSteps steps fewer
  accepted : (run_of fewer less).refusal ≡ None
  leaner : IsLeaner t (run_of fewer less).state

-- a step that was made, and a run from there
made_first : (step : Step) (steps : List Step) (less after end : State) (m : IsMadeToo step less after) → RunsToo steps m.end end → RunsToo (step ∷ steps) less end
made_first step steps less after end m r = record {
  fewer = m.made ∷ r.fewer;
  are_some = inl (m.made, r.fewer, m.alike, refl, r.are_some);
  accepted = ap (λ (x : Result (Seen × State) Refusal). (end_after less x (run_of r.fewer)).refusal) m.accepted ∙ r.accepted;
  leaner = subst (λ (x : Result (Seen × State) Refusal). IsLeaner end (end_after less x (run_of r.fewer)).state) (sym m.accepted) r.leaner;
}

spared_first : (step : Step) (steps : List Step) (seen : Seen) (less after end : State) → IsSpared step seen less after → RunsToo steps less end → RunsToo (step ∷ steps) less end
spared_first step steps seen less after end l r = record { fewer = r.fewer; are_some = inr (l.spared, r.are_some); accepted = r.accepted; leaner = r.leaner }

first_traced : (step : Step) (steps : List Step) (seen : Seen) (less after end : State) → IsTraced step seen less after
    → ((from : State) → IsLeaner after from → RunsToo steps from end) → RunsToo (step ∷ steps) less end
first_traced step steps seen less after end (inl m) rest = made_first step steps less after end m (rest m.end m.leaner)
first_traced step steps seen less after end (inr l) rest = spared_first step steps seen less after end l (rest less l.leaner)

one_more : (step : Step) (steps : List Step) (more less : State) (r : Result (Seen × State) Refusal) → step_of more step ≡ r → IsLeaner more less
    → ((after from : State) → IsLeaner after from → (run_of steps after).refusal ≡ None → RunsToo steps from (run_of steps after).state)
    → (end_after more r (run_of steps)).refusal ≡ None → RunsToo (step ∷ steps) less (end_after more r (run_of steps)).state
one_more step steps more less (Ok done) is h rest accepted =
    first_traced step steps done.0 less done.1 (run_of steps done.1).state (traced more less done.1 step done.0 h is) (λ from leaner. rest done.1 from leaner accepted)
one_more step steps more less (Err refusal) is h rest accepted = absurd (cc)

all_traced : (more less : State) (steps : List Step) → IsLeaner more less → (run_of steps more).refusal ≡ None → RunsToo steps less (run_of steps more).state
all_traced more less [] h accepted = record { fewer = []; are_some = refl; accepted = refl; leaner = h }
all_traced more less (step ∷ steps) h accepted = one_more step steps more less (step_of more step) refl h (λ after from leaner. all_traced after from steps leaner) accepted

-- ---- the crashes of a run

crash_alike : (step made : Step) → IsLike step made → is_crash made ≡ is_crash step
crash_alike (Exec p) made is = ap is_crash is
crash_alike (Drain p i) made (place, is) = ap is_crash is
crash_alike (Persist line) made is = ap is_crash is
crash_alike Settle made is = ap is_crash is
crash_alike Crash made is = ap is_crash is

no_crash : (step : Step) → may_be_spared step ≡ true → is_crash step ≡ false
no_crash (Exec p) out = refl
no_crash (Drain p i) out = refl
no_crash (Persist line) out = refl
no_crash Settle out = refl
no_crash Crash out = absurd (true≢false (sym out))

crashes_alike : (steps fewer : List Step) → AreSomeSteps steps fewer → list_any is_crash fewer ≡ list_any is_crash steps
crashes_alike [] fewer is = ap (list_any is_crash) is
crashes_alike (step ∷ steps) fewer (inl (made, rest, alike, is, h)) =
    ap (list_any is_crash) is ∙ (λ i. crash_alike step made alike i || crashes_alike steps rest h i)
crashes_alike (step ∷ steps) fewer (inr (out, h)) = crashes_alike steps fewer h ∙ ap (λ (b : Bool). b || list_any is_crash steps) (sym (no_crash step out))

pub run_traced : (crashes : Bool) (more less t : State) (steps : List Step) → IsLeaner more less → IsRun crashes steps more t → IsRunToo crashes steps less t
run_traced crashes more less t steps h run =
    let too = all_traced more less steps h run.accepted in record {
      fewer = too.fewer;
      are_some = too.are_some;
      run = record { accepted = too.accepted; leads = refl; crashing = λ any. run.crashing (sym (crashes_alike steps too.fewer too.are_some) ∙ any) };
      leaner = subst (λ (x : State). IsLeaner x (run_of too.fewer less).state) run.leads too.leaner;
    }
