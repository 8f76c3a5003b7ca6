use Rattle.std.proofs.Common.{◌<◌, ℕ, subst}
use Rattle.pending_images.specs.Candidates.{most_candidates}
use Rattle.explore.proofs.AskedEnds.{counted_in, counted_of, found_of}
use Rattle.explore.proofs.asked.least_at.Goals as goal

pub returns-clause-many : goal.returns-clause-many
returns-clause-many c = λ told.
    let e = c.in_ok-narrow.ensures in
    let all = counted_in c.args.cond.now c.args.view.now c.pending.result.now c.args.k c.in_ok-narrow.narrow.memory c.pending.ensures e.lines e.every_word e.narrow in
    subst (λ (n : ℕ). most_candidates < n) all (c.first_of.ensures.many told)

pub returns-clause-least : goal.returns-clause-least
returns-clause-least c =
    let e = c.in_ok-narrow.ensures in
    found_of c.args.cond.now c.args.view.now c.pending.result.now c.args.k c.in_ok-narrow.narrow c.first_of.result c.pending.ensures e.lines e.every_word e.is_shape c.requires e.narrow e.shape c.first_of.ensures.first

pub returns-clause-count : goal.returns-clause-count
returns-clause-count c =
    let e = c.in_ok-narrow.ensures in
    counted_of c.args.cond.now c.args.view.now c.pending.result.now c.args.k c.in_ok-narrow.narrow.memory c.first_of.result c.pending.ensures e.lines e.every_word e.narrow c.first_of.ensures.count
