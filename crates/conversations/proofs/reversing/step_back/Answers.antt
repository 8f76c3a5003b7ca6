use Rattle.std.proofs.Common.{map}
use Rattle.debugger.specs.Stops.{armed}
use Rattle.debugger.specs.Sessions.{session, watch}
use Rattle.conversations.proofs.Reversals.{one_back}
use Rattle.conversations.proofs.reversing.step_back.Goals as goal

pub returns : goal.returns
returns g c =
    let old = session c.args.session.now.past (map (λ t. armed t.id t.cond) c.args.session.now.stops.items) (map (λ w. watch w.id ((goal.Watcher-dyn g (w.watcher.vtable, w.watcher.value)).meaning_of w.watcher.value)) c.args.session.now.watchers.items) in
    let new = session c.undo-gone.new.self.past (map (λ t. armed t.id t.cond) c.undo-gone.new.self.stops.items) (map (λ w. watch w.id ((goal.Watcher-dyn g (w.watcher.vtable, w.watcher.value)).meaning_of w.watcher.value)) c.undo-gone.new.self.watchers.items) in
    one_back old new c.undo-gone.result c.undo-gone.ensures.session c.undo-gone.ensures.only_far c.requires.some
