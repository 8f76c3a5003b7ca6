use Rattle.std.proofs.Common.{List, ap, ◌∙◌}
use Rattle.std.specs.Prelude.{slice_set}
use Rattle.isa.specs.declared.instr.Instr.{Instr}
use Rattle.isa.specs.Programs.{is_program}
use Rattle.fence_needs.proofs.ChangesKeepObjects.{change_keeps_program}
use Rattle.fence_needs.proofs.change.program_replaced.Goals as goal

pub from_parts-requires : goal.from_parts-requires
from_parts-requires c =
    let kept = change_keeps_program c.args.program.now c.args.place c.args.instr.now c.requires c.instructions.ensures.program in
    let code = ap (λ (code : List Instr). slice_set code c.args.place c.args.instr.now) c.instructions.ensures.value in
    ap is_program (c.in_ok-code.ensures ∙ code) ∙ kept
