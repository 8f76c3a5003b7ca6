use Rattle.std.proofs.Common.{rules, ◌≡◌, ◌+◌, arith}
use Rattle.std.specs.Prelude.{vec_len, vec_items}
use Rattle.thread_jobs.proofs.BroughtReceipts.{at_push}
use Rattle.thread_jobs.proofs.deal.start_all.Goals as goal

pub loop-seat-preserved : goal.loop-seat-preserved
loop-seat-preserved g c =
    let was = c.loop-seat.invariant in let step = c.in-Some.ensures.steps in let pushed = c.push_reserved.ensures in
    let number : c.in-Some.seat.number ≡ vec_len c.loop-seat.workers = let h = was.2 0 c.in-Some.seat in grind rules in (
      omega (arith, was.0, step.1, pushed.len),
      search rules,
      (λ k d below. let h = was.2 (k + 1) d in grind rules),
      λ k d below. at_push
          (λ i x. (x.promise.number ≡ i) × (x.promise.dealing.threads ≡ c.args.dealing.threads) × (x.promise.dealing.steps.now ≡ c.args.dealing.steps.now))
          (vec_items c.loop-seat.workers) (vec_items c.push_reserved.new.self) (vec_len c.loop-seat.workers) c.in-Ok.worker d pushed.items (search rules)
          (λ i lt. was.3 i d lt)
          (search rules)
          k (omega (arith, below, pushed.len)),
    )
