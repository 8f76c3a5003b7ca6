use Rattle.machine.specs.Programs.{AreSiblings}
use Rattle.hunt.specs.Ends.{AreEnds}
use Rattle.hunt.proofs.end_counts.ends_of_run.Given as goal

abbrev pub invariant-loop-k : goal.invariant-loop-k
invariant-loop-k g l = record {
  counts : AreEnds l.recovered l.search l.range.first l.k l.counts;
  programs : AreSiblings l.own l.search.machine;
}
