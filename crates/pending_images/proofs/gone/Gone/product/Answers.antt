use Rattle.std.proofs.Common.{◌<◌, arith}
use Rattle.lines_layout.specs.Lines.{max_lines}
use Rattle.pending_images.specs.Candidates.{all_lines}
use Rattle.pending_images.proofs.SumsOfProducts.{one_more, too_many}
use Rattle.pending_images.proofs.gone.Gone.product.Goals as goal

pub returns-then-product-ge-TOO_MANY : goal.returns-then-product-ge-TOO_MANY
returns-then-product-ge-TOO_MANY c =
    let line = c.loop-number.number in
    let inside : line < max_lines = omega (arith, c.loop-number-test.true, c.lines-number-end.ensures.all) in
    let within : line < all_lines = omega (arith, c.loop-number-test.true, c.lines-number-end.ensures.value) in
    let most = rw c.line_at-line.ensures at c.before-in-loop-number.ensures in
    let least = rw c.line_at-line.ensures at c.low.ensures.value in
    too_many line c.args.self.now.markers c.loop-number.product _ _ c.min.result c.args.self.now.pending.memory.pending c.loop-number.invariant.same most least c.min.ensures c.if-product-ge-TOO_MANY.true within

pub loop-number-preserved : goal.loop-number-preserved
loop-number-preserved c =
    let line = c.loop-number.number in
    let inside : line < max_lines = omega (arith, c.loop-number-test.true, c.lines-number-end.ensures.all) in
    let most = rw c.line_at-line.ensures at c.before-in-loop-number.ensures in
    let least = rw c.line_at-line.ensures at c.low.ensures.value in record {
      same = one_more line c.args.self.now.markers c.loop-number.product _ _ c.min.result c.args.self.now.pending.memory.pending c.loop-number.invariant.same most least c.min.ensures c.if-product-ge-TOO_MANY.false;
      few = omega (arith, c.if-product-ge-TOO_MANY.false);
    }
