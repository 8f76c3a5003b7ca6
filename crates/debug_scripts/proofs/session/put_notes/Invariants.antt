use Rattle.std.proofs.Common.{◌++◌, List, map, take}
use Rattle.debugger.specs.Sessions.{watch}
use Rattle.debug_scripts.specs.Replies.{Told, noted}
use Rattle.debug_scripts.proofs.session.put_notes.Given as goal

abbrev pub invariant-loop-attached : goal.invariant-loop-attached
invariant-loop-attached g l =
    (told : List Told) → g.F.Form.Tells l.form l.fn.page told
    → g.F.Form.Tells l.form l.page (told ++ map noted (map (λ w. watch w.id ((goal.Watcher-dyn g (w.watcher.vtable, w.watcher.value)).meaning_of w.watcher.value)) (take l.attached-index l.watchers)))
