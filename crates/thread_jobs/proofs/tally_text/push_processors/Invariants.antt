use Rattle.std.proofs.Common.{◌≡◌, ◌++◌, drop, string_bytes}
use Rattle.thread_jobs.specs.TallyReports.{processors_text}
use Rattle.thread_jobs.proofs.tally_text.push_processors.Given as goal

abbrev pub invariant-loop-p : goal.invariant-loop-p
invariant-loop-p l = string_bytes l.text ++ processors_text l.p (drop l.p l.registers) ≡ string_bytes l.fn.text ++ processors_text 0 l.registers
