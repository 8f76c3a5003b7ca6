use Rattle.std.proofs.Common.{◌≡◌, ◌++◌, drop, string_bytes}
use Rattle.std.specs.List.{flat_map}
use Rattle.mend_jobs.specs.MendTexts.{put_line}
use Rattle.mend_jobs.proofs.mend_text.push_puts.Given as goal

abbrev pub invariant-loop-repair : goal.invariant-loop-repair
invariant-loop-repair l =
    string_bytes l.text ++ flat_map (put_line l.layout l.lines l.made) (drop l.repair-index l.set) ≡ string_bytes l.fn.text ++ flat_map (put_line l.layout l.lines l.made) l.set
