use Rattle.std.proofs.Common.{◌≤◌, ◌∙◌, sym, ap, arith}
use Rattle.std.specs.Prelude.{count_by}
use Rattle.persist_buffer.specs.Rings.{is_in}
use Rattle.persist_buffer.proofs.NthAndCountBefore.{before_all, counted_before}
use Rattle.persist_buffer.proofs.Merging.{ring_rises}
use Rattle.persist_buffer.proofs.rings.Rings.count_before.Goals as goal

pub returns-then-k-count : goal.returns-then-k-count
returns-then-k-count c =
    let all : count_by (is_in c.args.b) c.args.self.now.stamped ≤ c.args.k = omega (arith, c.if-k-count.true, c.count.ensures.value) in
    c.count-then-k-count.ensures.value ∙ sym (ap (count_by (is_in c.args.a)) (before_all (is_in c.args.b) c.args.k c.args.self.now.stamped all))

pub count_below-requires : goal.count_below-requires
count_below-requires c = ring_rises _ _ _ c.args.a _ c.self.invariant.0 c.requires.a c.index.ensures

pub returns : goal.returns
returns c = rw (← c.self.view_is) (counted_before _ _ _ c.args.a c.args.b c.args.k _ _ c.nth.result.now c.self.invariant.0 c.requires.a c.index.ensures (rw (← c.self.view_is) at c.nth.ensures) c.count_below.ensures)
