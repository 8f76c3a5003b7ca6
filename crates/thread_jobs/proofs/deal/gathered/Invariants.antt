use Rattle.std.proofs.Common.{◌≡◌, ℕ, ◌+◌, ◌<◌, ◌≤◌, List, get_or}
use Rattle.std.specs.Prelude.{IfOk, vec_len, vec_items, vec_capacity}
use Rattle.std.specs.Vec.Iter.{into_iter_items, into_iter_len}
use Rattle.machine.specs.declared.step.Step.{Step}
use Rattle.thread_jobs.specs.Dealings.{dealt}
use Rattle.thread_jobs.specs.Brought.{HasWorked, AreBrought}
use Rattle.thread_jobs.proofs.deal.gathered.Given as goal

abbrev pub invariant-loop-worked : goal.invariant-loop-worked
invariant-loop-worked g l =
    let rest = l.worked-iterator in let done = vec_len l.seats in let all = l.fn.all in
    (done + into_iter_len rest ≡ vec_len all)
    × (vec_len all ≤ vec_capacity l.seats)
    × ((k : ℕ) (d : _) → k < into_iter_len rest → get_or (into_iter_items rest) k d ≡ get_or (vec_items all) (done + k) d)
    × ((threads : ℕ) (steps : List Step)
    → ((k : ℕ) (d : _) → k < vec_len all → IfOk (get_or (vec_items all) k d) (λ w. HasWorked w.0 w.1.items k (dealt k threads steps)))
    → AreBrought done threads steps (vec_items l.seats) (vec_items l.receipts))
