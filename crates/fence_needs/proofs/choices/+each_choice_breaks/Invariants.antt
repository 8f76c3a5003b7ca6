use Rattle.std.proofs.Common.{length}
use Rattle.fence_needs.proofs.choices.+each_choice_breaks.Given as goal

abbrev pub decreases-each_choice_breaks : goal.decreases-each_choice_breaks
decreases-each_choice_breaks g l = length l.sites.now
