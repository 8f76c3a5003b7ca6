use Rattle.std.proofs.Common.{◌<◌, sym, ◌∙◌, arith}
use Rattle.store_buffer.proofs.IndexOfNewestWrites.{none_forwarded, forwarded_now, after_within, after_now}
use Rattle.store_buffer.proofs.buffer.Buffer.forward.Goals as goal

pub returns-then-after-eq0 : goal.returns-then-after-eq0
returns-then-after-eq0 c =
    let after = after_now c.self.inside.after_newest c.self.inside.entries.items c.args.word c.number.result c.from-after.result c.self.invariant.1 c.number.ensures.value c.number.ensures.bound c.from-after.ensures in
    rw (← c.self.view_is) (sym (none_forwarded c.self.inside.entries.items c.args.word (after ∙ c.if-after-eq0.true)))

pub bounds-as_slice-after : goal.bounds-as_slice-after
bounds-as_slice-after c =
    let after = after_now c.self.inside.after_newest c.self.inside.entries.items c.args.word c.number.result c.from-after.result c.self.invariant.1 c.number.ensures.value c.number.ensures.bound c.from-after.ensures in
    let within = after_within c.self.inside.entries.items c.args.word in
    rw c.as_slice.ensures.value (omega arith)

pub returns : goal.returns
returns c =
    let after = after_now c.self.inside.after_newest c.self.inside.entries.items c.args.word c.number.result c.from-after.result c.self.invariant.1 c.number.ensures.value c.number.ensures.bound c.from-after.ensures in
    let some : 0 < c.from-after.result = omega arith in
    rw (c.value_to.ensures, ← c.self.view_is) (forwarded_now c.self.inside.entries.items c.args.word c.from-after.result c.index-as_slice-after.result after some (rw c.as_slice.ensures.value at c.index-as_slice-after.is))
