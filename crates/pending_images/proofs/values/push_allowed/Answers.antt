use Rattle.std.proofs.Common.{ℕ, ◌∙◌, ap, length, sym}
use Rattle.pending_images.specs.Candidates.{before}
use Rattle.pending_images.proofs.AgreeingNumbers.{column_there}
use Rattle.pending_images.proofs.FindingFirstCut.{flags_there}
use Rattle.pending_images.proofs.values.push_allowed.Goals as goal

pub push_all_fitting-requires-clause-there : goal.push_all_fitting-requires-clause-there
push_all_fitting-requires-clause-there c =
    let g = c.args.gone.now in
    flags_there c.args.fits.now c.index-fits-number.result g.pending.memory.pending c.number-number.result g.markers c.before-most.result c.requires.fits c.number-number.ensures.bound c.index-fits-number.is
    (c.before-most.ensures ∙ ap (λ (line : ℕ). before line g.markers g.pending.memory.pending) (sym c.number-number.ensures.value))

pub push_all_fitting-requires-clause-column : goal.push_all_fitting-requires-clause-column
push_all_fitting-requires-clause-column c =
    let g = c.args.gone.now in
    column_there (length c.args.column.now) c.args.line g.markers c.before-most.result g.pending.memory.pending c.requires.column c.before-most.ensures
