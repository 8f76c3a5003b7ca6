use Rattle.std.proofs.Common.{ℕ, ◌≡◌, ◌-◌, ◌≤◌, Some, ap, arith, drop, length, sym, take, ◌∙◌}
use Rattle.std.specs.Prelude.{slice_index}
use Rattle.explore.specs.KeyTables.{start_of}
use Rattle.explore.proofs.KeyChains.{part_at, part_within}
use Rattle.explore.proofs.links.steps_at.Goals as goal

pub slice_bounds-result-start : goal.slice_bounds-result-start
slice_bounds-result-start c =
    let within = part_within 0 c.args.ends.now (length c.args.steps.now) c.args.i c.requires.ends c.requires.there in
    let start = c.start_of-start.ensures in
    let bound : c.start_of-start.result ≤ slice_index c.args.ends.now c.args.i = omega (arith, within.0, within.1, start) in
    bound

pub slice_bounds-result-end : goal.slice_bounds-result-end
slice_bounds-result-end c =
    let within = part_within 0 c.args.ends.now (length c.args.steps.now) c.args.i c.requires.ends c.requires.there in
    let start = c.start_of-start.ensures in
    let bound : slice_index c.args.ends.now c.args.i ≤ length c.args.steps.now = omega (arith, within.0, within.1, start) in
    bound

pub slice_bounds-result-count : goal.slice_bounds-result-count
slice_bounds-result-count c =
    let within = part_within 0 c.args.ends.now (length c.args.steps.now) c.args.i c.requires.ends c.requires.there in
    let start = c.start_of-start.ensures in
    let bound : c.start_of-start.result ≤ slice_index c.args.ends.now c.args.i = omega (arith, within.0, within.1, start) in
    bound

pub offset_bounds-steps-start : goal.offset_bounds-steps-start
offset_bounds-steps-start c =
    let within = part_within 0 c.args.ends.now (length c.args.steps.now) c.args.i c.requires.ends c.requires.there in
    let start = c.start_of-start.ensures in
    let bound : c.start_of-start.result ≤ length c.args.steps.now = omega (arith, within.0, within.1, start) in
    omega (arith, bound, c.type_inv)

pub returns : goal.returns
returns c =
    part_at 0 c.args.ends.now c.args.steps.now c.args.i c.requires.there
    ∙ ap (λ (from : ℕ). Some (take (slice_index c.args.ends.now c.args.i - from) (drop from c.args.steps.now))) (sym c.start_of-start.ensures)
