use Rattle.std.proofs.Common.{◌≡◌, ◌++◌, drop, string_bytes}
use Rattle.std.specs.List.{flat_map}
use Rattle.jobs.specs.CheckReports.{crash_text}
use Rattle.jobs.proofs.failure.push_crashes.Given as goal

abbrev pub invariant-loop-crash : goal.invariant-loop-crash
invariant-loop-crash l =
    string_bytes l.text ++ flat_map (crash_text l.start) (drop l.crash-index l.told.crashes.items)
    ≡ string_bytes l.fn.text ++ flat_map (crash_text l.start) l.told.crashes.items
