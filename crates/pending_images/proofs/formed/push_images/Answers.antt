use Rattle.std.proofs.Common.{◌≡◌, ◌∙◌, ◌++◌, ℕ, ap, arith, length}
use Rattle.pending_images.specs.Candidates.{all_lines}
use Rattle.pending_images.specs.Products.{images_at}
use Rattle.pending_images.proofs.FormingImages.{line_spread}
use Rattle.pending_images.proofs.formed.push_images.Goals as goal

pub loop-number-preserved : goal.loop-number-preserved
loop-number-preserved c =
    let old = c.args.images.now in
    let start : c.len-start.result ≡ length old.items = omega (arith, c.len-start.ensures, old.ok) in
    line_spread c.args.gone.now.pending.shape c.loop-number.number c.args.gone.now.markers _ c.args.gone.now.pending.memory.pending c.args.settled.now old.items c.loop-number.images.items _ start c.loop-number.invariant
    (rw c.line_at.ensures at c.in_ok-spread.ensures)

pub returns : goal.returns
returns c =
    let at : c.loop-number.number ≡ all_lines = omega (arith, c.lines-number-end.ensures.value, c.loop-number-test.false, c.loop-number.auto.number-end) in
    c.loop-number.invariant ∙ ap (λ (n : ℕ). c.args.images.now.items ++ images_at c.args.gone.now.pending.shape n c.args.gone.now.markers c.args.gone.now.pending.memory.pending c.args.settled.now) at
