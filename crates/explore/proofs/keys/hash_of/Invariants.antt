use Rattle.std.proofs.Common.{◌≡◌, drop}
use Rattle.explore.specs.KeyTables.{hash_from}
use Rattle.explore.proofs.keys.hash_of.Given as goal

abbrev pub invariant-loop-byte : goal.invariant-loop-byte
invariant-loop-byte l = hash_from l.hash (drop l.byte-index l.bytes) ≡ hash_from 0 l.bytes
