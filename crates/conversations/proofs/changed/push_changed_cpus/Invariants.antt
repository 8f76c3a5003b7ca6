use Rattle.std.proofs.Common.{◌≡◌, ◌++◌, drop, string_bytes}
use Rattle.conversations.specs.Changed.{changed_cpus}
use Rattle.conversations.proofs.changed.push_changed_cpus.Given as goal

abbrev pub invariant-loop-p : goal.invariant-loop-p
invariant-loop-p l =
    string_bytes l.text ++ changed_cpus l.layout l.old.processors l.p (drop l.p l.view.processors)
    ≡ string_bytes l.fn.text ++ changed_cpus l.layout l.old.processors 0 l.view.processors
