use Rattle.choices.proofs.Waited.{seen_within}
use Rattle.choices.proofs.queue.has_within.Goals as goal

pub returns-then-is_within : goal.returns-then-is_within
returns-then-is_within c passes =
    seen_within c.args.queue.now c.args.choice.now c.deref.result.now c.other-item.result c.loop-other.other-index c.is_within.result c.loop-other-test.true c.other-item.is
    c.deref.ensures.value c.is_within.ensures c.if-is_within.true
