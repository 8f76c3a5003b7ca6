use Rattle.std.proofs.Common.{◌∙◌, sym}
use Rattle.commands.proofs.ProcessorLine.{cpu_line_more}
use Rattle.commands.proofs.state_text.push_cpu_line.Goals as goal

pub returns : goal.returns
returns c =
    cpu_line_more _ _ _ _ _ _ _ _ _ _ _ _
    (sym c.recovering.ensures ∙ c.unwrap-recovering.ensures) (sym c.place.ensures ∙ c.unwrap-place.ensures)
    (sym c.halted.ensures.value ∙ c.unwrap.ensures) (sym c.zf.ensures ∙ c.unwrap-2.ensures)
    c.trap-trap.ensures c.progress_text-progress.ensures c.flag_text-zero.ensures
    c.in_ok-push_site.ensures c.in_ok-writeln.ensures.bytes
