use Rattle.std.proofs.Common.{◌≡◌, ◌++◌, drop, string_bytes}
use Rattle.jobs.specs.CheckReports.{never_texts}
use Rattle.jobs.proofs.unreached.push_nevers.Given as goal

abbrev pub invariant-loop-p : goal.invariant-loop-p
invariant-loop-p l =
    string_bytes l.text ++ never_texts l.layout l.found l.crashes l.p (drop l.p l.processors) ≡ string_bytes l.fn.text ++ never_texts l.layout l.found l.crashes 0 l.processors
