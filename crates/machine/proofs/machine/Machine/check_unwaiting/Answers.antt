use Rattle.std.proofs.Common.{◌≡◌, ◌∙◌, sym, refl, length, arith, Some}
use Rattle.std.specs.Prelude.{slice_get}
use Rattle.std.proofs.lemmas.Option.{slice_get_read}
use Rattle.outcomes.specs.Outcomes.{tested}
use Rattle.machine.specs.LooseSteps.{run_unwaiting}
use Rattle.machine.proofs.StepsWithoutOrderTests.{exec_unwaiting_tested}
use Rattle.machine.proofs.machine.Machine.check_unwaiting.Goals as goal

pub returns : goal.returns
returns c =
    let s = c.args.self.now in
    let cpus = c.cpus-cpus.result.now in
    let cpu = c.index-cpus-p.result in
    let read : slice_get cpus c.args.p ≡ Some cpu = slice_get_read cpus (length cpus) c.args.p cpu refl (omega arith) c.index-cpus-p.is in
    let there : slice_get s.processors c.args.p ≡ Some cpu = rw c.cpus-cpus.ensures.value at read in
    let checked : c.check_unwaiting.result ≡ tested (run_unwaiting s.shape cpu s.memory) = rw c.pending.ensures at c.check_unwaiting.ensures in
    checked ∙ sym (exec_unwaiting_tested s c.args.p cpu there)
