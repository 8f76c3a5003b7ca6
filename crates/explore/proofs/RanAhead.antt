-- Where own steps come first: what a run executes and is no own step, a node executes.
use Rattle.std.proofs.Common.{◌≡◌, ℕ, zero, suc, inl, inr, Bool, false, Option, Some, Ok, List, refl, sym, ap, ◌∙◌, arith, true≢false}
use Rattle.std.specs.Prelude.{◌⊎◌, ◌&&◌, Contains, slice_get, slice_set}
use Rattle.machine.specs.declared.step.Seen.TheVariants.{Ran}
use Rattle.machine.specs.declared.step.Step.TheVariants.{Exec}
use Rattle.machine.specs.Processors.{run_by}
use Rattle.machine.specs.State.{Processor, State}
use Rattle.machine.specs.Steps.{step_of}
use Rattle.machine.proofs.ProcessorSteps.{exec_always, exec_only}
use Rattle.explore.specs.Ahead.{IsCoveredAhead, IsTried}
use Rattle.explore.specs.declared.question.Question.{Question}
use Rattle.explore.specs.Own.{Advances, is_before, is_own, is_private, leaves, place_at, runs}
use Rattle.explore.specs.Ran.{Executes, IsRanAmong}
use Rattle.explore.proofs.AheadSteps.{ahead_of, covers_ahead_of, gone_at, place_is}
use Rattle.explore.proofs.CoveredSteps.{Follows, Lacks, exec_covered}
use Rattle.explore.proofs.OwnSteps.{no_memory, own_run, runs_after}

mode_stays : (locals : Bool) (shape : List ℕ) (n : ℕ) (c d : Processor) → Advances locals shape n c d → d.recovering ≡ c.recovering
mode_stays locals shape zero c d gone = ap (λ (x : Processor). x.recovering) gone
mode_stays locals shape (suc n) c d (mid, runs act own rises ran, rest) =
    mode_stays locals shape n mid d rest ∙ (own_run locals shape c mid no_memory no_memory no_memory act c.buffer own (omega arith) (ran no_memory)).recovering
mode_stays locals shape (suc n) c d (mid, leaves later whole is, rest) = mode_stays locals shape n mid d rest ∙ ap (λ (x : Processor). x.recovering) is

module _ (sets locals : Bool) (question : Question) (nodes : List State) where
  by_node : (r t : State) (p : ℕ) (recovery : Bool) (place : ℕ) (end : Processor) → IsTried sets locals question nodes r → Contains nodes r → slice_get r.processors p ≡ Some end → end.recovering ≡ recovery → end.place ≡ place
      → (u : State) → Lacks r (Exec p) ⊎ Follows sets r (Exec p) u → IsRanAmong nodes p recovery place
  by_node r t p recovery place end tried there now mode at u (inl lacks) = absurd (true≢false (sym lacks.room ∙ tried.expanded.room (Exec p) lacks.refusal refl lacks.refused))
  by_node r t p recovery place end tried there now mode at u (inr f) = (r, there, record { cpu = end; there = now; program = mode; at = at; seen = f.seen; end = f.end; made = f.made })

  pub foreign_ran : (t : State) (p : ℕ) (recovery : Bool) (place : ℕ) → IsCoveredAhead sets locals question nodes t → (e : Executes t p recovery place) → is_private locals e.end e.seen ≡ false → IsRanAmong nodes p recovery place
  foreign_ran t p recovery place (r, there, tried, c) e foreign =
      let u = e.end in
      let x = exec_only t u p e.seen e.made in
      let (end, now, (n, gone)) = gone_at locals r.shape t.processors r.processors p x.before c.processors x.there in
      let ran : run_by r.shape x.before t.memory ≡ Ok (x.act, (x.after, u.memory)) = ap (λ (shape : List ℕ). run_by shape x.before t.memory) (sym c.shape) ∙ x.ran in
      let after_place : place_at u.processors p ≡ x.after.place = ap (λ (cpus : List Processor). place_at cpus p) x.alone.processors ∙ place_is t.processors p x.before x.after x.there in
      let not_own : (is_own locals x.act && is_before x.before.place x.after.place) ≡ false =
      ap (λ (k : ℕ). is_own locals x.act && is_before x.before.place k) (sym after_place) ∙ ap (is_private locals u) (sym x.shown) ∙ foreign in
      let on = runs_after locals r.shape n x.before x.after end t.memory u.memory x.act ran not_own gone in
      let next : State = record u { processors = slice_set r.processors p on.after } in
      let made : step_of (ahead_of r t) (Exec p) ≡ Ok (Ran p end.place x.act, next) = exec_always (ahead_of r t) next p (Ran p end.place x.act) (record {
        before = end;
        after = on.after;
        act = x.act;
        turn_left = x.turn_left;
        there = now;
        ran = ap (λ (shape : List ℕ). run_by shape end t.memory) c.shape ∙ on.ran;
        shown = refl;
        alone = record { turns = x.alone.turns; crashes = x.alone.crashes; shape = x.alone.shape; processors = refl };
      }) in
      let same : x.before ≡ e.cpu = some_same x.before e.cpu (sym x.there ∙ e.there) in
      by_node r t p recovery place end tried there now (mode_stays locals r.shape n x.before end gone ∙ ap (λ (y : Processor). y.recovering) same ∙ e.program)
      (on.place ∙ ap (λ (y : Processor). y.place) same ∙ e.at) next (exec_covered sets r (ahead_of r t) next p (Ran p end.place x.act) (covers_ahead_of sets locals r t c) tried.expanded.time made)
    where
      some_same : (a b : Processor) → ◌≡◌ {A = Option Processor} (Some a) (Some b) → a ≡ b
      some_same a b is = cc
