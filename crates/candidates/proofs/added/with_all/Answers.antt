use Rattle.std.proofs.Common.{◌≡◌, ◌-◌, ◌+◌, arith, sym, ◌∙◌}
use Rattle.candidates.proofs.PutInLastFirst.{all_done, all_put_in, none_then}
use Rattle.candidates.proofs.added.with_all.Goals as goal

pub loop-left-preserved : goal.loop-left-preserved
loop-left-preserved c =
    let left = c.loop-left.left in
    let inv = c.loop-left.invariant in
    let is_left : left ≡ left - 1 + 1 = omega (arith, c.loop-left-test.true) in record {
      within = omega (arith, inv.within);
      rest =
          all_put_in c.args.set.now c.args.object.now c.loop-left.changed left (left - 1) c.index-set-left.result is_left inv.within inv.rest c.index-set-left.is c.in-Some.more
          (sym c.in_ok-more.ensures ∙ c.in-Some.is);
    }

pub returns-in-None : goal.returns-in-None
returns-in-None c =
    let left = c.loop-left.left in
    let inv = c.loop-left.invariant in
    let is_left : left ≡ left - 1 + 1 = omega (arith, c.loop-left-test.true) in
    none_then c.args.set.now c.args.object.now c.loop-left.changed left (left - 1) c.index-set-left.result is_left inv.within inv.rest c.index-set-left.is
    (sym c.in_ok-more.ensures ∙ c.in-None.is)

pub returns : goal.returns
returns c = all_done c.args.set.now c.args.object.now c.loop-left.changed c.loop-left.left c.loop-left-test.false c.loop-left.invariant.rest
