use Rattle.std.proofs.Common.{◌≡◌, ◌*◌, ◌≤◌, sum, take}
use Rattle.jobs.proofs.values.word_count.Given as goal

abbrev pub invariant-loop-count : goal.invariant-loop-count
invariant-loop-count l = record {
  value : l.total ≡ sum (take l.count-index l.counts);
  small : l.total ≤ 255 * l.count-index;
}
