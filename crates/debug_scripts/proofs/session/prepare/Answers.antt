use Rattle.std.proofs.Common.{map}
use Rattle.debugger.specs.Stops.{armed}
use Rattle.debugger.specs.Sessions.{watch}
use Rattle.debug_scripts.proofs.Apart.{both_made, none_attached}
use Rattle.debug_scripts.proofs.session.prepare.Goals as goal

pub attach_all-requires-clause-none : goal.attach_all-requires-clause-none
attach_all-requires-clause-none g c = none_attached _ _ (map (λ t. armed t.id t.cond) c.args.stops.items) c.requires.unwatched c.in_ok-arm_all.ensures

pub returns : goal.returns
returns g c = both_made _ _ _ (map (λ t. armed t.id t.cond) c.args.stops.items)
    (map (λ w. watch w.id ((goal.Watcher-dyn g (w.watcher.vtable, w.watcher.value)).meaning_of w.watcher.value)) c.args.watchers.items) c.attach_all.result c.in_ok-arm_all.ensures c.attach_all.ensures
