use Rattle.std.proofs.Common.{map}
use Rattle.debugger.specs.Stops.{armed}
use Rattle.debugger.specs.Sessions.{watch}
use Rattle.debug_scripts.proofs.Apart.{is_prepared, none_armed, none_watched, prepared_shape}
use Rattle.debug_scripts.proofs.session.play.Goals as goal

pub prepare-requires-clause-unarmed : goal.prepare-requires-clause-unarmed
prepare-requires-clause-unarmed g c = none_armed _ _ c.in-Ok.ensures.opened

pub prepare-requires-clause-unwatched : goal.prepare-requires-clause-unwatched
prepare-requires-clause-unwatched g c = none_watched _ _ c.in-Ok.ensures.opened

pub played-requires-clause-shape : goal.played-requires-clause-shape
played-requires-clause-shape g c =
    let all = is_prepared _ _ c.args.machine (map (λ t. armed t.id t.cond) c.args.stops.items)
    (map (λ w. watch w.id ((goal.Watcher-dyn g (w.watcher.vtable, w.watcher.value)).meaning_of w.watcher.value)) c.args.watchers.items) c.in-Ok.ensures.opened c.in-Ok-prepare.ensures in
    prepared_shape (g.F.Form.names c.args.form.now) _ c.args.machine (map (λ t. armed t.id t.cond) c.args.stops.items)
    (map (λ w. watch w.id ((goal.Watcher-dyn g (w.watcher.vtable, w.watcher.value)).meaning_of w.watcher.value)) c.args.watchers.items) all c.requires.shape
