use Rattle.std.proofs.Common.{◌≡◌, ◌++◌, drop, string_bytes}
use Rattle.std.specs.List.{flat_map}
use Rattle.mend_jobs.specs.NeedTexts.{need_line}
use Rattle.mend_jobs.proofs.need_text.push_need_lines.Given as goal

abbrev pub invariant-loop-one : goal.invariant-loop-one
invariant-loop-one l =
    string_bytes l.text ++ flat_map (need_line l.layout) (drop l.one-index l.needs) ≡ string_bytes l.fn.text ++ flat_map (need_line l.layout) l.needs
