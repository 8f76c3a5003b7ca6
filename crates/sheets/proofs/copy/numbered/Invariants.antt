use Rattle.std.proofs.Common.{◌≡◌, ◌++◌, drop}
use Rattle.std.specs.List.{flat_map}
use Rattle.sheets.specs.Abbreviations.{byte_in_copy}
use Rattle.sheets.proofs.copy.numbered.Given as goal

abbrev pub invariant-loop-byte : goal.invariant-loop-byte
invariant-loop-byte l = l.text.items ++ flat_map (byte_in_copy l.number) (drop l.byte-index l.token) ≡ flat_map (byte_in_copy l.number) l.token
