use Rattle.std.proofs.Common.{◌≡◌, Result, Ok, Err, IsErrAnd, List, [], sym, ◌∙◌, ap}
use Rattle.outcomes.specs.Outcomes.{tested}
use Rattle.isa.specs.declared.instr.Instr.{Instr}
use Rattle.store_buffer.specs.declared.entry.Entry.{Entry}
use Rattle.processor.specs.declared.refusal.Refusal as exec
use Rattle.processor.specs.Executions.{check_of, exec_of}
use Rattle.machine.specs.declared.refusal.Refusal.{Refusal}
use Rattle.machine.specs.Refusals.{of_exec}
use Rattle.machine.specs.State.{Processor}
use Rattle.machine.specs.Processors.{program_of, contents_of}
use Rattle.machine.specs.LooseSteps.{run_unwaiting}
use Rattle.machine.proofs.StepsWithoutOrderTests.{unwaiting_refused}
use Rattle.machine.proofs.logical_processor.Processor.check_unwaiting.Goals as goal

told : (r : Result (Unit {0}) Refusal) (refusal : exec.Refusal) → IsErrAnd r (λ (x : Refusal). x ≡ of_exec refusal) → r ≡ Err (of_exec refusal)
told (Ok done) refusal is = absurd (is)
told (Err x) refusal is = ap (λ (y : Refusal). Err y) is

pub returns-in_err-check : goal.returns-in_err-check
returns-in_err-check c =
    let own = c.self.inside in
    let cpu = own.cpu in
    let m = c.args.pending.now.memory in
    let shape = c.args.pending.now.shape in
    let it : Processor = record {
      main = own.main;
      recovery = own.recovery;
      recovering = own.recovering;
      place = cpu.place;
      regs = cpu.regs;
      trap = cpu.trap;
      buffer = own.buffer;
    } in
    let refusal = c.in_err-check.field-0.0 in
    let checked : tested (exec_of (program_of it) cpu (contents_of shape [] m)) ≡ Err refusal =
    c.room_decides.ensures (program_of it) cpu (contents_of shape [] m)
    ∙ ap (λ (b : List Entry). tested (check_of (program_of it) cpu (contents_of shape b m))) (sym c.new.ensures)
    ∙ ap (λ (l : List Instr). tested (check_of l cpu (contents_of shape c.new.result m))) (sym c.chosen-program.ensures)
    ∙ sym c.in_err-check.ensures in
    told c.from_residual.result refusal c.from_residual.ensures.1
    ∙ sym (unwaiting_refused shape it m refusal checked)
    ∙ ap (λ (x : Processor). tested (run_unwaiting shape x m)) c.self.view_is
