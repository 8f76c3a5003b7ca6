use Rattle.fence_needs.specs.Sites.{instr_at}
use Rattle.fence_needs.proofs.WeakerOnesMayStand.{instr_names, nop_may, weaker_may}
use Rattle.fence_needs.proofs.laws.weaker_ones_may_stand_there.Goals as goal

pub returns-clause-nop : goal.returns-clause-nop
returns-clause-nop c = nop_may

pub returns-clause-weaker : goal.returns-clause-weaker
returns-clause-weaker c object site weaker is = weaker_may object (instr_at object site) weaker (instr_names object site is.loadable)
