use Rattle.std.proofs.Common.{◌≡◌, ◌<◌, ◌∙◌, ℕ, ap, length, sym, arith}
use Rattle.lines_layout.specs.Lines.{max_lines}
use Rattle.pending_images.specs.Candidates.{all_lines, before, low}
use Rattle.pending_images.specs.LeastCuts.{counts_below}
use Rattle.pending_images.proofs.FindingFirstCut.{counts_next, flags_there, none_fits}
use Rattle.pending_images.proofs.first_cut.least_counts.Goals as goal

pub first-requires-clause-ordered : goal.first-requires-clause-ordered
first-requires-clause-ordered c =
    let line = c.loop-number.number in
    let inside : line < max_lines = omega (arith, c.loop-number-test.true, c.lines-number-end.ensures.all) in
    let from = rw c.line_at-line.ensures at c.low-least.ensures.value in
    let to = rw c.line_at-line.ensures at c.before-most.ensures in
    let ordered = rw c.line_at-line.ensures at c.low-least.ensures.within in
    omega (arith, from, to, ordered)

pub first-requires-clause-there : goal.first-requires-clause-there
first-requires-clause-there c =
    let inside : c.loop-number.number < max_lines = omega (arith, c.loop-number-test.true, c.lines-number-end.ensures.all) in
    flags_there c.args.fits.now c.index-fits-number.result c.args.gone.now.pending.memory.pending c.loop-number.number c.args.gone.now.markers c.before-most.result c.requires inside c.index-fits-number.is
    (rw c.line_at-line.ensures at c.before-most.ensures)

pub returns-in_default : goal.returns-in_default
returns-in_default c =
    let es = c.args.gone.now.pending.memory.pending in
    let line = c.loop-number.number in
    let inside : line < max_lines = omega (arith, c.loop-number-test.true, c.lines-number-end.ensures.all) in
    let within : line < all_lines = omega (arith, c.loop-number-test.true, c.lines-number-end.ensures.value) in
    let size = c.requires.lines in
    let there : line < length c.args.fits.now = omega (arith, inside, size) in
    let from = rw c.line_at-line.ensures at c.low-least.ensures.value in
    none_fits c.args.fits.now c.index-fits-number.result (λ (l : ℕ). low l c.args.gone.now.markers es) (λ (l : ℕ). before l c.args.gone.now.markers es) all_lines line c.low-least.result c.before-most.result within there c.index-fits-number.is
    from (rw c.line_at-line.ensures at c.before-most.ensures) (sym c.first.ensures ∙ c.in_default.is)

pub loop-number-preserved : goal.loop-number-preserved
loop-number-preserved c =
    let es = c.args.gone.now.pending.memory.pending in
    let line = c.loop-number.number in
    let inside : line < max_lines = omega (arith, c.loop-number-test.true, c.lines-number-end.ensures.all) in
    let size = c.requires.lines in
    let there : line < length c.args.fits.now = omega (arith, inside, size) in
    let from = rw c.line_at-line.ensures at c.low-least.ensures.value in
    counts_next c.args.fits.now c.index-fits-number.result (λ (l : ℕ). low l c.args.gone.now.markers es) (λ (l : ℕ). before l c.args.gone.now.markers es) line c.low-least.result c.before-most.result c.in-Some.count c.loop-number.counts there c.index-fits-number.is
    from (rw c.line_at-line.ensures at c.before-most.ensures) c.loop-number.invariant (sym c.first.ensures ∙ c.in-Some.is)

pub returns : goal.returns
returns c =
    let es = c.args.gone.now.pending.memory.pending in
    let at : c.loop-number.number ≡ all_lines = omega (arith, c.lines-number-end.ensures.value, c.loop-number-test.false, c.loop-number.auto.number-end) in
    sym (sym (ap (counts_below c.args.fits.now (λ (l : ℕ). low l c.args.gone.now.markers es) (λ (l : ℕ). before l c.args.gone.now.markers es)) at) ∙ c.loop-number.invariant)
