use Rattle.std.proofs.Common.{◌≡◌, ◌++◌, take, map, string_bytes}
use Rattle.std.specs.List.{flat_map}
use Rattle.debugger.specs.Sessions.{watch}
use Rattle.debug_scripts.specs.SessionTexts.{watch_text}
use Rattle.debug_scripts.proofs.session_text.push_each.Given as goal

abbrev pub invariant-loop-attached : goal.invariant-loop-attached
invariant-loop-attached g l = string_bytes l.text ≡ string_bytes l.fn.text ++ flat_map (watch_text l.layout) (map (λ w. watch w.id ((goal.Watcher-dyn g (w.watcher.vtable, w.watcher.value)).meaning_of w.watcher.value)) (take l.attached-index l.watchers))
