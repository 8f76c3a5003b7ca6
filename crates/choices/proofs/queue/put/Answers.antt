use Rattle.choices.proofs.Waited.{held_within, not_needed, put_in}
use Rattle.choices.proofs.queue.put.Goals as goal

pub returns-in_ok-push : goal.returns-in_ok-push
returns-in_ok-push c = put_in c.args.queue.now.items c.push.new.self.items c.args.choice c.requires c.in_ok-push.ensures.items

pub returns-else-not-has_within : goal.returns-else-not-has_within
returns-else-not-has_within c =
    not_needed c.args.queue.now.items c.args.choice c.requires
    (held_within c.args.queue.now.items c.deref.result.now c.args.choice.items c.deref-2.result.now c.has_within.result c.deref.ensures.value c.deref-2.ensures.value
    c.has_within.ensures c.if-not-has_within.false)
