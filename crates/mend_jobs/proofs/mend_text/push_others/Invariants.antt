use Rattle.std.proofs.Common.{◌≡◌, ◌++◌, drop, string_bytes}
use Rattle.std.specs.List.{flat_map}
use Rattle.mend_jobs.specs.MendTexts.{other_text}
use Rattle.mend_jobs.proofs.mend_text.push_others.Given as goal

abbrev pub invariant-loop-repair : goal.invariant-loop-repair
invariant-loop-repair l =
    string_bytes l.text ++ flat_map (other_text l.layout l.lines l.made) (drop l.repair-index l.others) ≡ string_bytes l.fn.text ++ flat_map (other_text l.layout l.lines l.made) l.others
