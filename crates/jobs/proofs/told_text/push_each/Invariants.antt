use Rattle.std.proofs.Common.{◌≡◌, ◌++◌, drop, string_bytes}
use Rattle.std.specs.List.{flat_map}
use Rattle.jobs.specs.ToldTexts.{told_line}
use Rattle.jobs.proofs.told_text.push_each.Given as goal

abbrev pub invariant-loop-one : goal.invariant-loop-one
invariant-loop-one l =
    string_bytes l.text ++ flat_map (told_line l.layout l.lines) (drop l.one-index l.told)
    ≡ string_bytes l.fn.text ++ flat_map (told_line l.layout l.lines) l.told
