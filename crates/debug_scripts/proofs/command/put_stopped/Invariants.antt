use Rattle.std.proofs.Common.{◌≡◌, map, take}
use Rattle.debugger.specs.Sessions.{watch}
use Rattle.debug_scripts.specs.DebugPlans.{watch_ordered}
use Rattle.debug_scripts.specs.contracts.command.attached as attached
use Rattle.debug_scripts.proofs.command.put_stopped.OwnLists.{own-2, lawful-own-2}
use Rattle.debug_scripts.proofs.command.put_stopped.Given as goal

-- the boxes of this function, by the name that they have where one is attached
abbrev pub invariant-loop-order : goal.invariant-loop-order
invariant-loop-order g l =
    map (λ w. watch w.id ((attached.dyn-1.members (attached.dyn-1-ghosts (own-2, lawful-own-2)) (w.watcher.vtable, w.watcher.value)).meaning_of w.watcher.value)) l.watchers.items
    ≡ map watch_ordered (take l.order-index l.order-items)
