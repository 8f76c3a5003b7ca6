use Rattle.std.proofs.Common.{◌≡◌, drop}
use Rattle.std.specs.Option.{option_or}
use Rattle.outcomes.specs.Lists.{newest}
use Rattle.store_buffer.specs.Buffers.{forward_of, value_to}
use Rattle.layer_tests.proofs.full_storage.newest.Given as goal

abbrev pub invariant-loop-entry : goal.invariant-loop-entry
invariant-loop-entry l = option_or (newest (value_to l.word) (drop l.entry-index l.entries)) l.found ≡ forward_of l.entries l.word
