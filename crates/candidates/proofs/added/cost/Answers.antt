use Rattle.std.proofs.Common.{◌≡◌, ap, arith, slice_index_or, ◌∙◌}
use Rattle.std.proofs.lemmas.List.Sums.{sum_by-drop_more}
use Rattle.image_reasons.specs.declared.repair.Repair.{Repair}
use Rattle.candidates.specs.Sets.{cost_of}
use Rattle.candidates.proofs.added.cost.Goals as goal

pub overflow_add-total : goal.overflow_add-total
overflow_add-total c =
    omega (arith, c.well_formed.0.1, c.loop-repair-test.true, c.loop-repair.invariant.small, c.from-total.ensures, c.cost_of.ensures.small)

pub loop-repair-preserved : goal.loop-repair-preserved
loop-repair-preserved c =
    let inv = c.loop-repair.invariant in
    let set = c.args.set.now in
    let at = c.loop-repair.repair-index in
    let one = c.repair-item.result in
    let here = sum_by-drop_more (λ (repair : Repair). cost_of repair.instr) set at one c.loop-repair-test.true in
    let same : c.from-total.result ≡ cost_of (slice_index_or set at one).instr = c.from-total.ensures ∙ c.cost_of.ensures.value ∙ ap (λ (repair : Repair). cost_of repair.instr) c.repair-item.is in
    record { rest = omega (arith, inv.rest, here, same); small = omega (arith, inv.small, c.from-total.ensures, c.cost_of.ensures.small) }
