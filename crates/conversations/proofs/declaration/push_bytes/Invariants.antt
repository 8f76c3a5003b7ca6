use Rattle.std.proofs.Common.{◌≡◌, ◌++◌, drop, string_bytes}
use Rattle.std.specs.List.{flat_map}
use Rattle.conversations.specs.Desks.{ascii}
use Rattle.conversations.proofs.declaration.push_bytes.Given as goal

abbrev pub invariant-loop-byte : goal.invariant-loop-byte
invariant-loop-byte l = string_bytes l.text ++ flat_map ascii (drop l.byte-index l.bytes) ≡ string_bytes l.fn.text ++ flat_map ascii l.bytes
