use Rattle.std.proofs.Common.{◌≡◌, List, [], map, drop}
use Rattle.debugger.specs.Stops.{armed}
use Rattle.debugger.specs.Sessions.{watch, session}
use Rattle.debug_scripts.specs.DebugReports.{HasShape}
use Rattle.debug_scripts.specs.Replies.{Told, course, coursed}
use Rattle.debug_scripts.proofs.session.follow_all.Given as goal

abbrev pub invariant-loop-command : goal.invariant-loop-command
invariant-loop-command g l =
    let now = session l.session.past (map (λ t. armed t.id t.cond) l.session.stops.items) (map (λ w. watch w.id ((goal.Watcher-dyn g (w.watcher.vtable, w.watcher.value)).meaning_of w.watcher.value)) l.session.watchers.items) in
    let begun = session l.fn.session.past (map (λ t. armed t.id t.cond) l.fn.session.stops.items) (map (λ w. watch w.id ((goal.Watcher-dyn g (w.watcher.vtable, w.watcher.value)).meaning_of w.watcher.value)) l.fn.session.watchers.items) in
    record {
      shape : HasShape (g.F.Form.names l.form) now;
      at : (told : List Told) × g.F.Form.Tells l.form l.page told × (coursed (course now l.ahead told) (drop l.command-index l.commands) ≡ coursed (course begun l.fn.ahead []) l.commands);
    }
