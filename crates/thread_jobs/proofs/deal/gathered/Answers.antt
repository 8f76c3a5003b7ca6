use Rattle.std.proofs.Common.{rules, ◌≡◌, ◌+◌, ◌++◌, get_or, arith, sym, subst}
use Rattle.std.specs.Prelude.{IfOk, vec_len, vec_items}
use Rattle.thread_jobs.specs.Dealings.{dealt}
use Rattle.thread_jobs.specs.Brought.{HasWorked, AreBrought}
use Rattle.thread_jobs.proofs.BroughtReceipts.{brought-next}
use Rattle.thread_jobs.proofs.deal.gathered.Goals as goal

pub loop-worked-preserved : goal.loop-worked-preserved
loop-worked-preserved g c =
    let was = c.loop-worked.invariant in let step = c.in-Some.ensures.steps in let pushed = c.push_reserved.ensures in
    let done = vec_len c.loop-worked.seats in
    let there : c.in-Some.worked ≡ get_or (vec_items c.args.all) done c.in-Some.worked = let h = was.2 0 c.in-Some.worked in grind rules in (
      omega (arith, was.0, step.1, pushed.len),
      search rules,
      (λ k d below. let h = was.2 (k + 1) d in grind rules),
      λ threads steps each.
          let this = subst (λ r. IfOk r (λ w. HasWorked w.0 w.1.items done (dealt done threads steps))) (sym there) (each done c.in-Some.worked (omega (arith, was.0, step.1))) in
          let mine : HasWorked c.in-Ok.seat c.in-Ok.own.items done (dealt done threads steps) =
          subst (λ r. IfOk r (λ w. HasWorked w.0 w.1.items done (dealt done threads steps))) c.in-Ok.is this in
          let whole : vec_items c.in_ok-receipts.receipts ≡ vec_items c.loop-worked.receipts ++ c.in-Ok.own.items = search rules in
          brought-next done (vec_len c.push_reserved.new.self) threads steps
          (vec_items c.loop-worked.seats) (vec_items c.push_reserved.new.self) (vec_items c.loop-worked.receipts) (vec_items c.in_ok-receipts.receipts)
          c.in-Ok.seat c.in-Ok.own.items (was.3 threads steps each) mine pushed.len pushed.items whole,
    )

pub returns : goal.returns
returns g c = λ threads steps each.
    let all : vec_len c.loop-worked.seats ≡ vec_len c.args.all = search rules in
    subst (λ n. AreBrought n threads steps (vec_items c.loop-worked.seats) (vec_items c.loop-worked.receipts)) all (c.loop-worked.invariant.3 threads steps each)
