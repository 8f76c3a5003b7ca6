use Rattle.std.proofs.Common.{◌≡◌, ◌∙◌, drop, sym, ap, arith}
use Rattle.schedule.specs.Masks.{numbers_in}
use Rattle.schedule.proofs.MaskNumbers.{lowest_first, some_left}
use Rattle.schedule.proofs.NthElementOrRest.{at_front, next_front, past_end}
use Rattle.schedule.proofs.masks.nth_in.Goals as goal

pub returns-then-n-count : goal.returns-then-n-count
returns-then-n-count c = let count = c.count_in-count.ensures.value in rw count (sym (past_end (numbers_in c.args.mask) c.args.n (omega (arith, count, c.if-n-count.true))))

pub overflow_sub-higher : goal.overflow_sub-higher
overflow_sub-higher c =
    some_left (numbers_in c.args.mask) c.loop-taken.higher c.loop-taken.taken c.loop-taken.invariant (omega (arith, c.loop-taken-test.true, c.if-n-count.false, c.count_in-count.ensures.value))

pub loop-taken-preserved : goal.loop-taken-preserved
loop-taken-preserved c =
    let some = some_left (numbers_in c.args.mask) c.loop-taken.higher c.loop-taken.taken c.loop-taken.invariant (omega (arith, c.loop-taken-test.true, c.if-n-count.false, c.count_in-count.ensures.value)) in
    sym (next_front (numbers_in c.args.mask) _ c.loop-taken.taken _ (sym c.loop-taken.invariant ∙ lowest_first c.loop-taken.higher some c.loop-taken.auto.higher-fits.fits))

pub returns : goal.returns
returns c =
    let last : c.loop-taken.taken ≡ c.args.n = omega (arith, c.loop-taken-test.false, c.loop-taken.auto.taken-end) in
    let some = some_left (numbers_in c.args.mask) c.loop-taken.higher c.loop-taken.taken c.loop-taken.invariant (omega (arith, last, c.if-n-count.false, c.count_in-count.ensures.value)) in
    let first = sym (ap (λ k. drop k (numbers_in c.args.mask)) last) ∙ (sym c.loop-taken.invariant ∙ lowest_first c.loop-taken.higher some c.loop-taken.auto.higher-fits.fits) in
    sym (at_front (numbers_in c.args.mask) _ c.args.n _ first)
