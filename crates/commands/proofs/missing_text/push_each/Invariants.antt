use Rattle.std.proofs.Common.{◌≡◌, ◌++◌, drop, string_bytes}
use Rattle.std.specs.List.{flat_map}
use Rattle.commands.specs.MissingTexts.{missing_line}
use Rattle.commands.proofs.missing_text.push_each.Given as goal

abbrev pub invariant-loop-write : goal.invariant-loop-write
invariant-loop-write l =
    string_bytes l.text ++ flat_map (missing_line l.layout l.lines) (drop l.write-index l.missing)
    ≡ string_bytes l.fn.text ++ flat_map (missing_line l.layout l.lines) l.missing
