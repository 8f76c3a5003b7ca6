use Rattle.std.proofs.Common.{◌≡◌, ◌∙◌, sym, ap, refl, length, Some}
use Rattle.std.specs.Prelude.{is_ok, slice_get}
use Rattle.std.proofs.lemmas.Option.{slice_get_read}
use Rattle.machine.specs.Accepted.{accepts}
use Rattle.machine.specs.declared.step.Step.TheVariants.{Exec}
use Rattle.machine.specs.Processors.{run_by}
use Rattle.outcomes.specs.Outcomes.{tested}
use Rattle.machine.proofs.AcceptedMasks.{exec_accepted, none_accepted}
use Rattle.machine.proofs.machine.Machine.runnable.Goals as goal

pub returns-then-is_err : goal.returns-then-is_err
returns-then-is_err c =
    let s = c.args.self.now in
    none_accepted s c.turn_left.result c.turn_left.ensures.value (length s.processors) Exec (sym c.is_err.ensures.value ∙ c.if-is_err.true)

pub loop-p-preserved : goal.loop-p-preserved
loop-p-preserved c =
    let s = c.args.self.now in
    let cpus = c.cpus-cpus.result.now in
    let cpu = c.index-cpus-p.result in
    let read : slice_get cpus c.loop-p.p ≡ Some cpu = slice_get_read cpus (length cpus) c.loop-p.p cpu refl c.loop-p-test.true c.index-cpus-p.is in
    let there : slice_get s.processors c.loop-p.p ≡ Some cpu = rw c.cpus-cpus.ensures.value at read in
    let accepted = exec_accepted s c.turn_left.result c.turn_left.ensures.value c.loop-p.p cpu there (sym c.is_err.ensures.value ∙ c.if-is_err.false) in
    let checked : c.check_exec.result ≡ tested (run_by s.shape cpu s.memory) = rw c.pending.ensures at c.check_exec.ensures in
    c.with_number-mask.ensures (λ p. accepts s (Exec p)) c.loop-p.invariant (c.is_ok-passes.ensures.value ∙ ap is_ok checked ∙ sym accepted)
