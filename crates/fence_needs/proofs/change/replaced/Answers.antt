use Rattle.std.proofs.Common.{List, ap, ◌∙◌}
use Rattle.isa.specs.declared.programs.Programs.{Programs}
use Rattle.fence_needs.specs.Changes.{all_replaced, replaced}
use Rattle.fence_needs.proofs.ChangesKeepObjects.{change_keeps_object, object_of_parts}
use Rattle.fence_needs.proofs.change.replaced.Goals as goal

pub from_parts-requires : goal.from_parts-requires
from_parts-requires c =
    let object = c.args.object.now in
    let site = c.args.site in
    let instr = c.args.instr in
    object_of_parts (replaced object site instr) c.in_ok-layout.layout c.in_ok-values.values c.in_ok-processors.processors.items
    (c.in_ok-layout.ensures ∙ c.layout.ensures)
    (c.in_ok-values.ensures ∙ c.values.ensures.value)
    (c.in_ok-processors.ensures ∙ ap (λ (all : List Programs). all_replaced site instr all) c.processors.ensures.value)
    (change_keeps_object object site instr c.requires c.values.ensures.object)
