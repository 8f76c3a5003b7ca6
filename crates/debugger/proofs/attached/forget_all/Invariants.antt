use Rattle.std.proofs.Common.{◌≡◌, map}
use Rattle.debugger.specs.Sessions.{watch, watch_kept}
use Rattle.debugger.proofs.ListsWithFrontMapped.{part}
use Rattle.debugger.proofs.attached.forget_all.Given as goal

abbrev pub invariant-loop-w : goal.invariant-loop-w
invariant-loop-w g l =
    map (λ w. watch w.id ((goal.Watcher-dyn g (w.watcher.vtable, w.watcher.value)).meaning_of w.watcher.value)) l.watchers
    ≡ part (watch_kept l.kept) l.w-index (map (λ w. watch w.id ((goal.Watcher-dyn g (w.watcher.vtable, w.watcher.value)).meaning_of w.watcher.value)) l.fn.watchers)
