use Rattle.std.proofs.Common.{◌≡◌, ap, arith, sym, ◌∙◌}
use Rattle.std.proofs.lemmas.List.Sums.{length-filter}
use Rattle.persist_buffer.specs.Memories.{is_write_on}
use Rattle.pending_images.specs.Candidates.{before}
use Rattle.pending_images.specs.Gone.{before_in}
use Rattle.pending_images.proofs.CountsBeforeMarkers.{before_within}
use Rattle.pending_images.proofs.gone.Gone.before.Goals as goal

pub returns-then-writes-eq0 : goal.returns-then-writes-eq0
returns-then-writes-eq0 c =
    let es = c.self.inside.pending.now.memory.pending in
    let k = c.self.inside.markers in
    let within = before_within c.args.line k es in
    let long = length-filter (is_write_on c.args.line) es in
    let few = c.writes.ensures.value in
    let none : before c.args.line k es ≡ 0 = omega (arith, within, long, few, c.if-writes-eq0.true) in
    sym none ∙ ap (before_in c.args.line) c.self.view_is
