use Rattle.std.proofs.Common.{◌≡◌, ◌++◌, drop, string_bytes}
use Rattle.thread_jobs.specs.TallyReports.{tally_text}
use Rattle.thread_jobs.proofs.tally_text.push_tally.Given as goal

abbrev pub invariant-loop-place : goal.invariant-loop-place
invariant-loop-place l = string_bytes l.text ++ tally_text l.layout (drop l.place l.tally) ≡ string_bytes l.fn.text ++ tally_text l.layout l.tally
