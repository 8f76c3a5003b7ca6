use Rattle.std.proofs.Common.{◌≡◌, ◌++◌, drop, string_bytes}
use Rattle.std.specs.List.{flat_map}
use Rattle.mend_jobs.specs.MendTexts.{open_line}
use Rattle.mend_jobs.proofs.mend_text.push_opens.Given as goal

abbrev pub invariant-loop-one : goal.invariant-loop-one
invariant-loop-one l =
    string_bytes l.text ++ flat_map (open_line l.layout l.lines l.made) (drop l.one-index l.untold) ≡ string_bytes l.fn.text ++ flat_map (open_line l.layout l.lines l.made) l.untold
