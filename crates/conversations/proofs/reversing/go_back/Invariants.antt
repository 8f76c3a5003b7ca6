use Rattle.std.proofs.Common.{◌≡◌, ◌≤◌, length, map}
use Rattle.debugger.specs.Stops.{armed}
use Rattle.debugger.specs.Sessions.{session, watch}
use Rattle.conversations.specs.Answered.{KeepsShape}
use Rattle.conversations.specs.Reversing.{reversed}
use Rattle.conversations.proofs.reversing.go_back.Given as goal

abbrev pub invariant-loop-left : goal.invariant-loop-left
invariant-loop-left g l =
    let now = session l.session.past (map (λ t. armed t.id t.cond) l.session.stops.items) (map (λ w. watch w.id ((goal.Watcher-dyn g (w.watcher.vtable, w.watcher.value)).meaning_of w.watcher.value)) l.session.watchers.items) in
    let begun = session l.fn.session.past (map (λ t. armed t.id t.cond) l.fn.session.stops.items) (map (λ w. watch w.id ((goal.Watcher-dyn g (w.watcher.vtable, w.watcher.value)).meaning_of w.watcher.value)) l.fn.session.watchers.items) in
    record {
      left : l.left ≡ length l.session.past.history;
      same : reversed l.left now ≡ reversed (length l.fn.session.past.history) begun;
      fewer : length l.session.past.history ≤ length l.fn.session.past.history;
      shape : KeepsShape begun now;
    }

abbrev pub decreases-loop-left : goal.decreases-loop-left
decreases-loop-left g l = l.left
