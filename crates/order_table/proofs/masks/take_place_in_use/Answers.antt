use Rattle.std.proofs.Common.{◌<◌, ◌^◌, ◌∙◌}
use Rattle.std.proofs.Math.ListN.{length-set}
use Rattle.order_table.proofs.LinesInUse.{fewer, one_taken, stays_in_use, not_in_use, all_taken}
use Rattle.order_table.proofs.masks.take_place_in_use.Goals as goal
use Rattle.order_table.proofs.masks.take_place_in_use.Goals.{then-mask-eq0, else-mask-eq0}

pub loop-left-smaller : goal.loop-left-smaller
loop-left-smaller c = fewer c.loop-left.left c.loop-left-test.true c.loop-left.auto.left-fits.fits

pub loop-left-preserved : goal.loop-left-preserved
loop-left-preserved c =
    let left = c.loop-left.left in
    let some = c.loop-left-test.true in
    let fits : left < 2 ^ 64 = c.loop-left.auto.left-fits.fits in
    let taken = c.loop-left.invariant.0 in
    let in_use = c.loop-left.invariant.1 in
    let all_lines = c.loop-left.invariant.2 in (
      one_taken left some fits c.args.place c.args.lines.now c.loop-left.lines taken all_lines c.without_place-mask.result c.without_place-mask.ensures,
      elim c.if-mask-eq0.branch [
        | then-mask-eq0 w ↦
            rw w.still_in_use-is (not_in_use left some fits c.args.place c.args.lines.now c.loop-left.lines taken all_lines c.without_place-mask.result c.without_place-mask.ensures c.loop-left.still_in_use in_use w.if-mask-eq0.true)
        | else-mask-eq0 w ↦
            rw w.still_in_use-is (stays_in_use left some fits c.args.place c.args.lines.now c.loop-left.lines taken all_lines c.without_place-mask.result c.without_place-mask.ensures c.loop-left.still_in_use in_use)
      ],
      length-set c.loop-left.lines _ _ ∙ all_lines,
    )

pub returns-clause-masks : goal.returns-clause-masks
returns-clause-masks c =
    all_taken c.args.place c.loop-left.left c.args.lines.now c.loop-left.lines c.loop-left.invariant.0 c.loop-left-test.false c.told-lines c.loop-left.invariant.2
