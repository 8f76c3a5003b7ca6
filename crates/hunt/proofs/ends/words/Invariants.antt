use Rattle.std.proofs.Common.{◌≡◌, ◌++◌, map, drop}
use Rattle.lines_layout.specs.Shapes.{words_from, words_of}
use Rattle.hunt.specs.Outcomes.{pair_of}
use Rattle.hunt.proofs.ends.words.Given as goal

abbrev pub invariant-loop-line : goal.invariant-loop-line
invariant-loop-line l = l.words.items ++ map (pair_of l.pending.memory) (words_from l.line (drop l.line l.pending.shape)) ≡ map (pair_of l.pending.memory) (words_of l.pending.shape)
