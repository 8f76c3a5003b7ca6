use Rattle.std.proofs.Common.{◌≡◌, map}
use Rattle.debugger.specs.Stops.{armed}
use Rattle.debugger.specs.Sessions.{session, watch}
use Rattle.debug_scripts.specs.DebugReports.{with_stops}
use Rattle.debug_scripts.proofs.Apart.{MayArm}
use Rattle.debug_scripts.proofs.session.arm_all.Given as goal

abbrev pub invariant-loop-stop : goal.invariant-loop-stop
invariant-loop-stop g l =
    let now = session l.session.past (map (λ t. armed t.id t.cond) l.session.stops.items) (map (λ w. watch w.id ((goal.Watcher-dyn g (w.watcher.vtable, w.watcher.value)).meaning_of w.watcher.value)) l.session.watchers.items) in
    let begun = session l.fn.session.past (map (λ t. armed t.id t.cond) l.fn.session.stops.items) (map (λ w. watch w.id ((goal.Watcher-dyn g (w.watcher.vtable, w.watcher.value)).meaning_of w.watcher.value)) l.fn.session.watchers.items) in
    record {
      free : MayArm now (map (λ t. armed t.id t.cond) l.stop-iterator.rest.items);
      same : with_stops now (map (λ t. armed t.id t.cond) l.stop-iterator.rest.items) ≡ with_stops begun (map (λ t. armed t.id t.cond) l.fn.stops.items);
    }
