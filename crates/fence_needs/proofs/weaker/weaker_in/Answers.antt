use Rattle.std.proofs.Common.{◌≡◌, Some, sym, ◌∙◌}
use Rattle.fence_needs.specs.Weakened.{weaker_tried}
use Rattle.fence_needs.proofs.WeakerOnesMayStand.{tried_may}
use Rattle.fence_needs.proofs.weaker.weaker_in.Goals as goal

pub with_weaker_at-requires : goal.with_weaker_at-requires
with_weaker_at-requires g c =
    let one = c.args.one.now in
    let tried : weaker_tried one.need one.instr ≡ Some c.in-Some.instr = sym c.weaker_tried.ensures ∙ c.in-Some.is in
    tried_may c.args.program.now one.need one.instr c.in-Some.instr c.requires tried
