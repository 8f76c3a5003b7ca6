use Rattle.std.proofs.Common.{◌≡◌, ℕ, ◌+◌, ◌<◌, ◌≤◌, get_or}
use Rattle.std.specs.Prelude.{vec_len, vec_items, vec_capacity}
use Rattle.std.specs.Vec.Iter.{into_iter_items, into_iter_len}
use Rattle.live.specs.Seats.{fresh}
use Rattle.thread_jobs.proofs.deal.start_all.Given as goal

abbrev pub invariant-loop-seat : goal.invariant-loop-seat
invariant-loop-seat g l =
    let rest = l.seat-iterator in let started = vec_len l.workers in
    (started + into_iter_len rest ≡ l.dealing.threads)
    × (l.dealing.threads ≤ vec_capacity l.workers)
    × ((k : ℕ) (d : _) → k < into_iter_len rest → get_or (into_iter_items rest) k d ≡ fresh (started + k))
    × ((k : ℕ) (d : _) → k < started
    → ((get_or (vec_items l.workers) k d).promise.number ≡ k)
    × ((get_or (vec_items l.workers) k d).promise.dealing.threads ≡ l.dealing.threads)
    × ((get_or (vec_items l.workers) k d).promise.dealing.steps.now ≡ l.dealing.steps.now))
