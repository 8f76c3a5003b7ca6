use Rattle.std.proofs.Common.{◌∙◌, refl, sym}
use Rattle.debugger.proofs.WhereRunsHalt.{found_here, passed_here}
use Rattle.debugger.proofs.places.first_true.Goals as goal

pub returns-then-is_true : goal.returns-then-is_true
returns-then-is_true g c = found_here _ c.args.stops.now c.loop-stop.stop-index c.stop-item.result c.args.machine.now c.loop-stop-test.true c.stop-item.is (sym c.is_true.ensures ∙ c.if-is_true.true) c.loop-stop.invariant _ refl

pub loop-stop-preserved : goal.loop-stop-preserved
loop-stop-preserved g c = passed_here _ c.args.stops.now c.loop-stop.stop-index c.stop-item.result c.args.machine.now c.loop-stop-test.true c.stop-item.is (sym c.is_true.ensures ∙ c.if-is_true.false) c.loop-stop.invariant
