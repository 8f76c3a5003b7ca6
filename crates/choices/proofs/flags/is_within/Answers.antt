use Rattle.std.proofs.Common.{◌∙◌}
use Rattle.choices.proofs.ByPlace.{within_both_taken, within_not_taken}
use Rattle.choices.proofs.flags.is_within.Goals as goal
use Rattle.choices.proofs.flags.is_within.Goals.{else-less-place-via-then-less-place+else-not-more-place, else-less-place-via-else-less-place}

pub loop-place-preserved : goal.loop-place-preserved
loop-place-preserved c = elim c.else-less-place.branch [
  | else-less-place-via-then-less-place+else-not-more-place w ↦
      within_both_taken c.args.less.now c.args.more.now c.loop-place.place c.loop-place-test.true c.requires w.if-not-more-place.false ∙ c.loop-place.invariant
  | else-less-place-via-else-less-place w ↦
      within_not_taken c.args.less.now c.args.more.now c.loop-place.place c.loop-place-test.true c.requires w.if-less-place.false ∙ c.loop-place.invariant
]
