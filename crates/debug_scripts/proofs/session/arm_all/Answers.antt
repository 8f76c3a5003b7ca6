use Rattle.debugger.specs.Values.{session_of}
use Rattle.debug_scripts.proofs.Apart.{begins_arm, begins_stops}
use Rattle.debug_scripts.proofs.session.arm_all.Goals as goal

pub loop-stop-init : goal.loop-stop-init
loop-stop-init g c = record {
  free = begins_arm _ (session_of (λ b. (goal.Watcher-dyn g (b.vtable, b.value)).meaning_of b.value) c.args.session.now) _ _ c.requires.none c.into_iter-stop-iterator.ensures.into_iter_gives.0 c.requires.apart;
  same = begins_stops _ _ _ _ c.into_iter-stop-iterator.ensures.into_iter_gives.0;
}
