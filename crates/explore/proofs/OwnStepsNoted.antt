-- Following own steps one after another, as the code goes.
use Rattle.std.proofs.Common.{◌≡◌, ℕ, Bool, Option, Some, None, Result, Ok, Err, List, [], ◌∷◌, ◌++◌, refl, sym, ap, subst, ◌∙◌, append_assoc, append-nil}
use Rattle.std.specs.Prelude.{if◌then◌else◌}
use Rattle.machine.specs.declared.refusal.Refusal.{Refusal}
use Rattle.machine.specs.declared.step.Seen.{Seen}
use Rattle.machine.specs.declared.step.Step.{Step}
use Rattle.machine.specs.State.{State}
use Rattle.machine.specs.Programs.{AreSiblings}
use Rattle.machine.specs.Steps.{check_of, step_of}
use Rattle.machine.proofs.ProgramsStay.{run_sibling}
use Rattle.outcomes.specs.Outcomes.{refusal_of}
use Rattle.explore.specs.Followed.{after, first_own, own_end, owns_of}
use Rattle.explore.specs.Found.{Found, added, then_tried, tried_by, tries_of}
use Rattle.explore.specs.Gathered.{executed, executed_by, followed_runs, runs_behind, runs_behind_all}
use Rattle.explore.specs.Keys.{key_of}
use Rattle.explore.specs.Questions.{is_room}
use Rattle.explore.specs.Sets.{included_all}
use Rattle.explore.proofs.OwnStepsFollowed.{after_is, end_none, end_then, owns_none, owns_then}
use Rattle.explore.proofs.SetsHold.{all_then}

-- one more is made
module _ (locals : Bool) (s t : State) (step : Step) (first : first_own locals s ≡ Some step) (is : t ≡ after s step) where
  pub still_end : (all : State) → own_end locals s ≡ all → own_end locals t ≡ all
  still_end all before = ap (own_end locals) is ∙ sym (end_then locals s step first) ∙ before

  pub still_steps : (was now all : List Step) → now ≡ was ++ step ∷ [] → was ++ owns_of locals s ≡ all → now ++ owns_of locals t ≡ all
  still_steps was now all more before =
      (λ k. more k ++ owns_of locals (is k)) ∙ append_assoc was (step ∷ []) (owns_of locals (after s step)) ∙ ap (λ (steps : List Step). was ++ steps) (sym (owns_then locals s step first)) ∙ before

  pub still_ran : (was now all : List (List ℕ)) → now ≡ included_all was (executed s step) → included_all was (followed_runs locals s) ≡ all → included_all now (followed_runs locals t) ≡ all
  still_ran was now all more before =
      (λ k. included_all (more k) (followed_runs locals (is k))) ∙ sym (all_then (executed s step) (followed_runs locals (after s step)) was)
      ∙ ap (λ (steps : List Step). included_all was (executed_by s steps)) (sym (owns_then locals s step first)) ∙ before

-- there is none
module _ (locals : Bool) (s : State) (none : first_own locals s ≡ None) where
  pub last_end : (all : State) → own_end locals s ≡ all → s ≡ all
  last_end all before = sym (end_none locals s none) ∙ before

  pub last_steps : (was all : List Step) → was ++ owns_of locals s ≡ all → was ≡ all
  last_steps was all before = sym (append-nil was) ∙ ap (λ (steps : List Step). was ++ steps) (sym (owns_none locals s none)) ∙ before

  pub last_ran : (was all : List (List ℕ)) → included_all was (followed_runs locals s) ≡ all → was ≡ all
  last_ran was all before = ap (λ (steps : List Step). included_all was (executed_by s steps)) (sym (owns_none locals s none)) ∙ before

  pub nothing_ran : (was : List (List ℕ)) → was ≡ included_all was (followed_runs locals s)
  nothing_ran was = sym (ap (λ (steps : List Step). included_all was (executed_by s steps)) (owns_none locals s none))

-- no step changes a program
pub siblings_on : (a b c : State) → AreSiblings a b → AreSiblings b c → AreSiblings a c
siblings_on a b c one more = record { shape = one.shape ∙ more.shape; programs = one.programs ∙ more.programs }

pub sibling_after : (s t : State) (step : Step) → t ≡ after s step → AreSiblings t s
sibling_after s t step is = subst (λ (x : State). AreSiblings x s) (sym is) (run_sibling (step ∷ []) s)

pub still_siblings : (s t from : State) (step : Step) → t ≡ after s step → AreSiblings s from → AreSiblings t from
still_siblings s t from step is before = siblings_on t s from (sibling_after s t step is) before

-- ---- a step that is tried, and those that follow it

abbrev Stepped : Type 0
Stepped = Result (Seen × State) Refusal

abbrev Tried : Type 0
Tried = Option Step × Found

module _ (locals : Bool) (s : State) (step : Step) where
  -- it is accepted
  pub behind_accepted : (t : State) → check_of s step ≡ None → t ≡ after s step → followed_runs locals t ≡ runs_behind locals (step_of s step)
  behind_accepted t none is = by (step_of s step) refl none
    where
      by : (r : Stepped) → step_of s step ≡ r → refusal_of r ≡ None → followed_runs locals t ≡ runs_behind locals r
      by (Ok done) made none = ap (followed_runs locals) (is ∙ after_is s done.1 step done.0 made)
      by (Err refusal) made none = absurd (cc)

  pub tried_accepted : (t end : State) (path steps : List Step) (key : List ℕ) (old new : Found) → check_of s step ≡ None → t ≡ after s step → end ≡ own_end locals t → steps ≡ step ∷ owns_of locals t
      → key ≡ key_of old.sets end → new ≡ added old key (path ++ steps) → ◌≡◌ {A = Tried} (None, new) (tried_by locals (step_of s step) old path step)
  tried_accepted t end path steps key old new none is ends more keyed found = by (step_of s step) refl none
    where
      by : (r : Stepped) → step_of s step ≡ r → refusal_of r ≡ None → ◌≡◌ {A = Tried} (None, new) (tried_by locals r old path step)
      by (Ok done) made none =
          let same : t ≡ done.1 = is ∙ after_is s done.1 step done.0 made in
          let at : key ≡ key_of old.sets (own_end locals done.1) = keyed ∙ ap (key_of old.sets) (ends ∙ ap (own_end locals) same) in
          let all : steps ≡ step ∷ owns_of locals done.1 = more ∙ ap (λ (x : State). step ∷ owns_of locals x) same in
          ap (λ (x : Found). (None, x)) (found ∙ (λ k. added old (at k) (path ++ all k)))
      by (Err refusal) made none = absurd (cc)

  -- it is refused
  pub behind_refused : (refusal : Refusal) → check_of s step ≡ Some refusal → [] ≡ runs_behind locals (step_of s step)
  behind_refused refusal some = by (step_of s step) some
    where
      by : (r : Stepped) → refusal_of r ≡ Some refusal → [] ≡ runs_behind locals r
      by (Ok done) some = absurd (cc)
      by (Err other) some = refl

  pub tried_refused : (refusal : Refusal) (path : List Step) (found : Found) → check_of s step ≡ Some refusal
      → ◌≡◌ {A = Tried} ((if is_room refusal then Some step else None), found) (tried_by locals (step_of s step) found path step)
  tried_refused refusal path found some = by (step_of s step) some
    where
      same : (a b : Refusal) → ◌≡◌ {A = Option Refusal} (Some a) (Some b) → b ≡ a
      same a b e = cc

      by : (r : Stepped) → refusal_of r ≡ Some refusal → ◌≡◌ {A = Tried} ((if is_room refusal then Some step else None), found) (tried_by locals r found path step)
      by (Ok done) some = absurd (cc)
      by (Err other) some = ap (λ (x : Refusal). ((if is_room x then Some step else None), found)) (same other refusal some)

-- ---- steps that are tried, one after another

module _ (locals : Bool) (s : State) (step : Step) (left rest : List Step) (is : left ≡ step ∷ rest) where
  pub tries_on : (path : List Step) (old new : Found) (lacks : Option Step) (all : Tried) → lacks ≡ None → ◌≡◌ {A = Tried} (lacks, new) (tried_by locals (step_of s step) old path step)
      → tries_of locals s path left old ≡ all → tries_of locals s path rest new ≡ all
  tries_on path old new lacks all none one before =
      ap (λ (x : Tried). then_tried x (tries_of locals s path rest)) (ap (λ (x : Option Step). (x, new)) (sym none) ∙ one) ∙ ap (λ (steps : List Step). tries_of locals s path steps old) (sym is) ∙ before

  pub runs_on : (was now all : List (List ℕ)) → now ≡ included_all was (runs_behind locals (step_of s step)) → included_all was (runs_behind_all locals s left) ≡ all → included_all now (runs_behind_all locals s rest) ≡ all
  runs_on was now all more before =
      ap (λ (xs : List (List ℕ)). included_all xs (runs_behind_all locals s rest)) more ∙ sym (all_then (runs_behind locals (step_of s step)) (runs_behind_all locals s rest) was)
      ∙ ap (λ (steps : List Step). included_all was (runs_behind_all locals s steps)) (sym is) ∙ before
