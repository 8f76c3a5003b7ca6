use Rattle.std.proofs.Common.{◌≡◌, Some, sym, ap, ◌∙◌}
use Rattle.isa.specs.declared.instr.Instr.{Instr}
use Rattle.fence_needs.specs.Sites.{instr_at}
use Rattle.fence_needs.specs.Weakened.{weaker_tried}
use Rattle.fence_needs.proofs.WeakerOnesMayStand.{instr_names, tried_may}
use Rattle.fence_needs.proofs.weaker.weaker_at.Goals as goal

pub with_weaker_at-requires : goal.with_weaker_at-requires
with_weaker_at-requires g c =
    let object = c.args.object.now in
    let instr = instr_at object c.args.site in
    let tried : weaker_tried c.args.need.now instr ≡ Some c.in-Some.instr =
    ap (λ (i : Instr). weaker_tried c.args.need.now i) (sym c.instr_at.ensures) ∙ sym c.weaker_tried.ensures ∙ c.in-Some.is in
    tried_may object c.args.need.now instr c.in-Some.instr (instr_names object c.args.site c.processors-processors.ensures.loadable) tried
