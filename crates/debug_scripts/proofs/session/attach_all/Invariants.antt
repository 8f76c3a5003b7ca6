use Rattle.std.proofs.Common.{◌≡◌, map}
use Rattle.debugger.specs.Stops.{armed}
use Rattle.debugger.specs.Sessions.{session, watch}
use Rattle.debug_scripts.specs.DebugReports.{with_watches}
use Rattle.debug_scripts.proofs.Apart.{MayAttach}
use Rattle.debug_scripts.proofs.session.attach_all.Given as goal

abbrev pub invariant-loop-attached : goal.invariant-loop-attached
invariant-loop-attached g l =
    let now = session l.session.past (map (λ t. armed t.id t.cond) l.session.stops.items) (map (λ w. watch w.id ((goal.Watcher-dyn g (w.watcher.vtable, w.watcher.value)).meaning_of w.watcher.value)) l.session.watchers.items) in
    let begun = session l.fn.session.past (map (λ t. armed t.id t.cond) l.fn.session.stops.items) (map (λ w. watch w.id ((goal.Watcher-dyn g (w.watcher.vtable, w.watcher.value)).meaning_of w.watcher.value)) l.fn.session.watchers.items) in
    record {
      free : MayAttach now (map (λ w. watch w.id ((goal.Watcher-dyn g (w.watcher.vtable, w.watcher.value)).meaning_of w.watcher.value)) l.attached-iterator.rest.items);
      same : with_watches now (map (λ w. watch w.id ((goal.Watcher-dyn g (w.watcher.vtable, w.watcher.value)).meaning_of w.watcher.value)) l.attached-iterator.rest.items)
          ≡ with_watches begun (map (λ w. watch w.id ((goal.Watcher-dyn g (w.watcher.vtable, w.watcher.value)).meaning_of w.watcher.value)) l.fn.watchers.items);
    }
