use Rattle.std.proofs.Common.{◌≡◌, ◌++◌, drop, string_bytes}
use Rattle.jobs.specs.CheckReports.{never_in}
use Rattle.jobs.proofs.unreached.push_never_in.Given as goal

abbrev pub invariant-loop-place : goal.invariant-loop-place
invariant-loop-place l =
    string_bytes l.text ++ never_in l.layout l.found l.p l.recovery l.place (drop l.place l.program) ≡ string_bytes l.fn.text ++ never_in l.layout l.found l.p l.recovery 0 l.program
