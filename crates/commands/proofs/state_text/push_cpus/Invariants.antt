use Rattle.std.proofs.Common.{◌≡◌, ◌++◌, drop, string_bytes}
use Rattle.commands.specs.StateTexts.{cpu_texts}
use Rattle.commands.proofs.state_text.push_cpus.Given as goal

abbrev pub invariant-loop-p : goal.invariant-loop-p
invariant-loop-p l =
    string_bytes l.text ++ cpu_texts l.layout l.p (drop l.p l.view.processors)
    ≡ string_bytes l.fn.text ++ cpu_texts l.layout 0 l.view.processors
