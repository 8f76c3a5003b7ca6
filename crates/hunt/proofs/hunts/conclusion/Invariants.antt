use Rattle.std.proofs.Common.{◌≡◌, ◌+◌, All, vec_len}
use Rattle.hunt.specs.Seats.{seats_of, whole_of, IsGatheredOf}
use Rattle.hunt.specs.Founds.{IsOfLeast}
use Rattle.hunt.specs.Known.{breaks}
use Rattle.hunt.specs.Done.{Did, IsDone}
use Rattle.hunt.specs.Returns.{Worked}
use Rattle.hunt.proofs.hunts.conclusion.Given as goal

abbrev pub invariant-loop-returned : goal.invariant-loop-returned
invariant-loop-returned l = record {
  back : All (Worked l.board l.target) l.back.items;
  whole : IsGatheredOf l.board l.whole;
  parts : (whole_of l.whole).parts + vec_len l.back ≡ seats_of l.board;
  done : IsDone (whole_of l.whole);
  did : Did (breaks l.target) (whole_of l.whole);
  found : IsOfLeast l.target (whole_of l.whole).reported l.found;
}

abbrev pub decreases-loop-returned : goal.decreases-loop-returned
decreases-loop-returned l = vec_len l.back
