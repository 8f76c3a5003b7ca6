use Rattle.std.proofs.Common.{◌≡◌, Some, Option, Bool, sym, ap, subst, ◌∙◌}
use Rattle.std.specs.Prelude.{◌&&◌, is_none, slice_get}
use Rattle.machine.specs.declared.refusal.Refusal.{Refusal}
use Rattle.machine.specs.declared.step.Step.TheVariants.{Exec}
use Rattle.machine.specs.Processors.{instruction_at}
use Rattle.machine.specs.State.{Processor, State}
use Rattle.machine.specs.Steps.{check_of}
use Rattle.explore.specs.Followed.{runs_own}
use Rattle.explore.proofs.OwnInstructions.{exec_is_own, tells_none}
use Rattle.explore.proofs.own.may_run.Goals as goal

pub returns-then-runs_own : goal.returns-then-runs_own
returns-then-runs_own c =
    let s = c.args.here.now in
    let p = c.args.p in
    let there = sym (c.instruction.ensures ∙ ap (λ (v : State). instruction_at v p) c.view-view.ensures) ∙ c.in-Some.is in
    let own = subst (λ (v : State). (d : Processor) → slice_get v.processors p ≡ Some d → c.runs_own.result ≡ runs_own c.args.locals v.shape d c.in-Some.instr) c.view-view.ensures c.runs_own.ensures in
    tells_none c.check.result c.is_none.result c.is_none.ensures ∙ ap (λ (refusal : Option Refusal). is_none refusal) c.check.ensures ∙ sym (ap (λ (b : Bool). b && is_none (check_of s (Exec p))) c.if-runs_own.true)
    ∙ exec_is_own c.args.locals s p c.in-Some.instr c.runs_own.result there own

pub returns-else-runs_own : goal.returns-else-runs_own
returns-else-runs_own c =
    let s = c.args.here.now in
    let p = c.args.p in
    let there = sym (c.instruction.ensures ∙ ap (λ (v : State). instruction_at v p) c.view-view.ensures) ∙ c.in-Some.is in
    let own = subst (λ (v : State). (d : Processor) → slice_get v.processors p ≡ Some d → c.runs_own.result ≡ runs_own c.args.locals v.shape d c.in-Some.instr) c.view-view.ensures c.runs_own.ensures in
    c.if-runs_own.false ∙ sym (ap (λ (b : Bool). b && is_none (check_of s (Exec p))) c.if-runs_own.false) ∙ exec_is_own c.args.locals s p c.in-Some.instr c.runs_own.result there own
