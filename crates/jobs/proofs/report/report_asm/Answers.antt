use Rattle.jobs.proofs.report.report_asm.Goals as goal

pub returns-clause-again : goal.returns-clause-again
returns-clause-again c = λ done.
    let spelled = c.spelled_report.ensures.spelled done in
    (c.objects_are_disassembled.ensures.read c.args.object.now spelled, c.objects_are_disassembled.ensures.dis c.args.object.now spelled)
