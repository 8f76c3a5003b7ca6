use Rattle.debugger.specs.Values.{session_of}
use Rattle.debug_scripts.proofs.Apart.{begins_attach, begins_watches}
use Rattle.debug_scripts.proofs.session.attach_all.Goals as goal

pub loop-attached-init : goal.loop-attached-init
loop-attached-init g c = record {
  free = begins_attach _ (session_of (λ b. (goal.Watcher-dyn g (b.vtable, b.value)).meaning_of b.value) c.args.session.now) _ _ c.requires.none c.into_iter-attached-iterator.ensures.into_iter_gives.0 c.requires.apart;
  same = begins_watches _ _ _ _ c.into_iter-attached-iterator.ensures.into_iter_gives.0;
}
