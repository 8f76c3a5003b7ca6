use Rattle.std.proofs.Common.{◌≡◌, ◌++◌, map}
use Rattle.std.specs.List.{range_with_len}
use Rattle.hunt.specs.Outcomes.{pair_of}
use Rattle.hunt.proofs.ends.push_words.Given as goal

abbrev pub invariant-loop-place : goal.invariant-loop-place
invariant-loop-place l = l.words.items ≡ l.fn.words.items ++ map (pair_of l.pending.memory) (range_with_len l.start l.place)
