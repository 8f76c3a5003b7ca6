use Rattle.std.proofs.Common.{◌+◌, ◌-◌, ◌++◌, arith}
use Rattle.pending_images.specs.Agreements.{picked}
use Rattle.pending_images.proofs.AgreeingNumbers.{fitting_next}
use Rattle.pending_images.proofs.fits.LineFits.push_all_fitting.Goals as goal

pub loop-n-preserved : goal.loop-n-preserved
loop-n-preserved c =
    let fits = c.args.self.now in
    let column = c.args.column.now in
    fitting_next fits column c.loop-n.values.items c.push_fitting.new.values.items (c.args.values.now.items ++ picked fits column c.args.from (c.args.to - c.args.from + 1)) c.loop-n.n c.args.to
    (omega (arith, c.loop-n-test.true)) c.loop-n.invariant c.in_ok-push_fitting.ensures
