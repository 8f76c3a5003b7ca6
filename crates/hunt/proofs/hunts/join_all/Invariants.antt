use Rattle.std.proofs.Common.{◌≡◌, ◌+◌, ◌≤◌, All, OnOk, vec_len, vec_capacity}
use Rattle.hunt.specs.Errands.{WorksFor}
use Rattle.hunt.specs.Returns.{Worked}
use Rattle.hunt.proofs.hunts.join_all.Given as goal

abbrev pub invariant-loop-worker : goal.invariant-loop-worker
invariant-loop-worker g l = record {
  workers : All (WorksFor l.board l.target) l.workers.items;
  back : All (Worked l.board l.target) l.back.items;
  length : OnOk l.worked (vec_len l.back + vec_len l.workers ≡ vec_len l.fn.workers);
  room : vec_len l.back + vec_len l.workers ≤ vec_capacity l.back;
}

abbrev pub decreases-loop-worker : goal.decreases-loop-worker
decreases-loop-worker g l = vec_len l.workers
