use Rattle.std.proofs.Common.{◌≡◌, ◌+◌, ◌<◌}
use Rattle.lines_layout.specs.Lines.{max_lines}
use Rattle.pending_images.specs.Candidates.{before, markers}
use Rattle.pending_images.proofs.SumsOfProducts.{lows_passed}
use Rattle.pending_images.proofs.gone.Gone.pass.Goals as goal

pub invariant_of-self : goal.invariant_of-self
invariant_of-self c =
    let k = c.self.inside.markers in
    let es = c.self.inside.pending.now.memory.pending in
    let line = c.marker-line.result in
    let there : k < markers es = rw (← c.self.view_is) at c.requires.there in
    let next : c.args.markers ≡ k + 1 = rw (← c.self.view_is) at c.requires.next in
    let least : c.before-least.result ≡ before line k es = c.before-least.ensures in
    let within : line < max_lines = rw c.number.ensures.value at c.number.ensures.bound in
    rw c.number.ensures.value (lows_passed k c.args.markers line c.before-least.result es c.self.inside.lows c.self.invariant next there c.marker-line.ensures within least)
