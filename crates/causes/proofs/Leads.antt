-- Steps that let writes go on, one behind the other, and what they reach.
use Rattle.std.proofs.Common.{◌≡◌, ◌∙◌, ◌||◌, ◌++◌, ℕ, ◌+◌, ◌<◌, Bool, true, false, None, Some, Result, Ok, Err, IfOk, List, [], ◌∷◌, append_assoc, arith, drop, get_or, inl, inr, length, map, refl, sym, ap, subst, true≢false}
use Rattle.std.specs.Prelude.{nat_lt}
use Rattle.std.proofs.Math.Seq.{get_or-append_seam}
use Rattle.std.proofs.lemmas.Bool.{cases_Bool}
use Rattle.std.proofs.lemmas.Bool.Decides.{nat_tests}
use Rattle.std.proofs.lemmas.List.{drop_more, get_or_append_left, length-append, length-drop, length-map, map-append}
use Rattle.std.specs.List.{list_any}
use Rattle.std.proofs.lemmas.List.Folds.{list_any-append}
use Rattle.std.specs.Global.{Vec}
use Rattle.isa.specs.Objects.{Object}
use Rattle.machine.specs.declared.step.Seen.{Seen}
use Rattle.machine.specs.declared.step.Step.{Step}
use Rattle.machine.specs.declared.step.Step.TheVariants.{Exec, Drain, Persist, Settle, Crash}
use Rattle.machine.specs.Objects.{opening}
use Rattle.machine.specs.State.{State}
use Rattle.machine.specs.Steps.{run_of, step_of}
use Rattle.conditions.specs.Formulas.{Formula}
use Rattle.persist_buffer.specs.declared.entry.PendingEntry.{PendingEntry}
use Rattle.persist_buffer.specs.State.{Pending}
use Rattle.pending_images.specs.ClosedSets.{flagged}
use Rattle.pending_images.specs.Cuts.{written}
use Rattle.pending_images.specs.Images.{image_at, image_now}
use Rattle.pending_images.specs.LeastSets.{IsLeastIn, places_from}
use Rattle.images.specs.Images.{pending_of}
use Rattle.images.specs.Truth.{holds_in, holds_on}
use Rattle.images.proofs.ImagesKeepCoherentValues.{images_keep}
use Rattle.image_reasons.specs.declared.missing.Missing.{Missing}
use Rattle.explore.specs.Reachable.{IsReachable, IsRun, is_crash}
use Rattle.explore.specs.Sound.{IsSound}
use Rattle.explore.proofs.Visits.{longer_run, one_step, path_then}
use Rattle.explore.specs.declared.question.Question.{Question}
use Rattle.causes.specs.declared.told.Told.{Told}
use Rattle.causes.specs.Enough.{AreAllTold, AreRight, HasLeft, IsEnoughHere, IsEnoughInImage, IsRight, LeadsOn, acts}

pub leads_nowhere : (s : State) → LeadsOn s s
leads_nowhere s = record { steps = []; quiet = refl; accepted = refl; leads = refl }

both_quiet : (a b : Bool) → a ≡ false → b ≡ false → (a || b) ≡ false
both_quiet true b one other = absurd (true≢false one)
both_quiet false b one other = other

pub leads_further : (s t u : State) → LeadsOn s t → LeadsOn t u → LeadsOn s u
leads_further s t u one other =
    let joined = path_then s t one.steps other.steps one.accepted one.leads in record {
      steps = one.steps ++ other.steps;
      quiet = list_any-append acts one.steps other.steps ∙ both_quiet (list_any acts one.steps) (list_any acts other.steps) one.quiet other.quiet;
      accepted = joined.0 ∙ other.accepted;
      leads = joined.1 ∙ other.leads;
    }

one_quiet : (b : Bool) → b ≡ false → (b || false) ≡ false
one_quiet true is = absurd (true≢false is)
one_quiet false is = refl

pub leads_by_a_step : (s t : State) (step : Step) (seen : Seen) → acts step ≡ false → step_of s step ≡ Ok (seen, t) → LeadsOn s t
leads_by_a_step s t step seen quiet accepted =
    let one = one_step s t step seen accepted in
    record { steps = step ∷ []; quiet = one_quiet (acts step) quiet; accepted = one.0; leads = one.1 }

-- ---- what a crash leaves

holds_any : List ℕ → Bool
holds_any [] = false
holds_any (first ∷ others) = true

flagged_none : (pending : List PendingEntry) (flags : List Bool) (i : ℕ) → places_from i flags ≡ [] → flagged pending flags ≡ []
unfolding holds_any
flagged_none [] flags i none = refl
flagged_none (entry ∷ later) [] i none = refl
flagged_none (entry ∷ later) (true ∷ flags) i none = absurd (true≢false (ap holds_any none))
flagged_none (entry ∷ later) (false ∷ flags) i none = flagged_none later flags (i + 1) none

-- Where the least closed set that leaves an image holds nothing, a crash leaves it now.
pub left_by_none : (p : Pending) (image places : List ℕ) → IsLeastIn p image (Some places) → places ≡ [] → image_now p ≡ image
left_by_none p image places (flags, least, are) none =
    let flags_none = flagged_none p.memory.pending flags 0 (sym are ∙ none) in
    sym (least.leaving.leaves ∙ ap (λ (entries : List PendingEntry). image_at p.shape (written entries p.memory.persisted)) flags_none)

-- ---- what is reached

pub reached_on : (start s t : State) → IsReachable true start s → LeadsOn s t → IsReachable true start t
reached_on start s t (path, ran) on =
    let joined = longer_run true start s path on.steps ran (λ any. refl) on.accepted in (
      path ++ on.steps,
      record {
        accepted = joined.accepted;
        leads = (path_then start s path on.steps ran.accepted ran.leads).1 ∙ on.leads;
        crashing = λ any. refl;
      },
    )

pub reached_by_a_step : (start s t : State) (step : Step) (seen : Seen) → IsReachable true start s → step_of s step ≡ Ok (seen, t) → IsReachable true start t
reached_by_a_step start s t step seen (path, ran) accepted =
    let one = one_step s t step seen accepted in
    let joined = longer_run true start s path (step ∷ []) ran (λ any. refl) one.0 in (
      path ++ step ∷ [],
      record {
        accepted = joined.accepted;
        leads = (path_then start s path (step ∷ []) ran.accepted ran.leads).1 ∙ one.1;
        crashing = λ any. refl;
      },
    )

pub reached_by_run : (start t : State) (steps : List Step) → (run_of steps start).refusal ≡ None → (run_of steps start).state ≡ t → IsReachable true start t
reached_by_run start t steps accepted leads = (steps, record { accepted = accepted; leads = leads; crashing = λ any. refl })

-- A state that a run reaches is sound, where each that steps lead to is.
pub sound_by : (object : Object) (s : State) → ((steps : List Step) → IsSound (run_of steps (opening object)).state) → IsReachable true (opening object) s → IsSound s
sound_by object s sound (path, ran) = subst IsSound ran.leads (sound path)

-- What is true in a state is true of what a crash leaves there.
pub holds_here : (s : State) (f : Formula) → holds_in s f ≡ true → holds_on s f (image_now (pending_of s)) ≡ true
holds_here s f is = images_keep s s.memory.persisted f (0, s.memory, refl, refl) ∙ is

-- What is told of writes where a crash leaves an image is told of them as missing in the image.
pub told_further : (question : Question) (s u : State) (image : List ℕ) (missing : List Missing) (told : List Told) → HasLeft s image u
    → AreAllTold (IsEnoughHere question u) missing told → AreAllTold (IsEnoughInImage question s image) missing told
told_further question s u image missing told left are = record {
  writes = are.writes;
  enough = λ k d below is. let right = are.enough k d below is in (right.0, (u, left, right.1));
}

-- ---- one more is told

-- So many are told as places were passed.
told_so_far : (missing : List Missing) (i : ℕ) (told : List Told) → i < length missing → map (λ t. t.write) told ++ drop i missing ≡ missing → length told ≡ i
told_so_far missing i told inside so_far =
    let w = λ (t : Told). t.write in
    let sizes : length (map w told) + length (drop i missing) ≡ length missing =
    sym (length-append (map w told) (drop i missing)) ∙ ap (λ (ws : List Missing). length ws) so_far in
    let first = length-map told w in
    let rest = length-drop i missing in
    omega arith

-- Where what is told is right, and of the next place this is, all is with it.
right_with : (IsEnough : Missing → Type 0) (missing : List Missing) (told : List Told) (one : Told) → AreRight IsEnough missing told
    → IsRight IsEnough missing (length told) one → AreRight IsEnough missing (told ++ one ∷ [])
right_with IsEnough missing told one right enough k d below =
    elim (cases_Bool (nat_lt k (length told))) [
      | inl before ↦
          let inside : k < length told = grind (arith, nat_tests, before) in
          subst (IsRight IsEnough missing k) (sym (get_or_append_left told (one ∷ []) d k inside)) (right k d inside)
      | inr not_before ↦
          let size = length-append told (one ∷ []) in
          let last : length told ≡ k = grind (arith, nat_tests, not_before, size, below) in
          subst (λ (place : ℕ). IsRight IsEnough missing place (get_or (told ++ one ∷ []) place d)) last
          (subst (IsRight IsEnough missing (length told)) (sym (get_or-append_seam told one [] d)) enough)
    ]

pub one_more : (IsEnough : Missing → Type 0) (missing : List Missing) (i : ℕ) (told now : List Told) (one : Told) → now ≡ told ++ one ∷ [] → i < length missing
    → one.write ≡ get_or missing i one.write → IsRight IsEnough missing i one
    → (map (λ t. t.write) told ++ drop i missing ≡ missing) × AreRight IsEnough missing told
    → (map (λ t. t.write) now ++ drop (i + 1) missing ≡ missing) × AreRight IsEnough missing now
one_more IsEnough missing i told now one pushed inside there enough so_far =
    let w = λ (t : Told). t.write in
    let rest = drop (i + 1) missing in
    let here = subst (λ (place : ℕ). IsRight IsEnough missing place one) (sym (told_so_far missing i told inside so_far.0)) enough in (
      ap (λ (ts : List Told). map w ts ++ rest) pushed ∙ ap (λ (ws : List Missing). ws ++ rest) (map-append w told (one ∷ []))
          ∙ append_assoc (map w told) (one.write ∷ []) rest ∙ ap (λ (x : Missing). map w told ++ x ∷ rest) there
          ∙ ap (λ (ws : List Missing). map w told ++ ws) (sym (drop_more missing i one.write inside)) ∙ so_far.0,
      subst (AreRight IsEnough missing) (sym pushed) (right_with IsEnough missing told one so_far.1 here),
    )

pub told_further_if : {E : Type 0} (question : Question) (s u : State) (image : List ℕ) (missing : List Missing) (told : Result (Vec Told) E) → HasLeft s image u
    → IfOk told (λ writes. AreAllTold (IsEnoughHere question u) missing writes.items)
    → IfOk told (λ writes. AreAllTold (IsEnoughInImage question s image) missing writes.items)
told_further_if question s u image missing (Ok writes) left are = told_further question s u image missing writes.items left are
told_further_if question s u image missing (Err error) left are = are

-- Where none is told as enough, each that is told is right.
pub none_right : {E : Type 0} (IsEnough : Missing → Type 0) (missing : List Missing) (told : Result (Vec Told) E)
    → IfOk told (λ writes. AreAllTold (λ write. ⊥) missing writes.items) → IfOk told (λ writes. AreAllTold IsEnough missing writes.items)
none_right IsEnough missing (Ok writes) are = record { writes = are.writes; enough = λ k d below is. absurd (are.enough k d below is).1 }
none_right IsEnough missing (Err error) are = are
