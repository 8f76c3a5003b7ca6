use Rattle.std.proofs.Common.{◌≡◌, ◌∷◌, [], ◌++◌, sym, inl, ap, ◌∙◌, subst, arith, ℕ, List}
use Rattle.hunt.specs.Counts.{Has}
use Rattle.hunt.specs.Seats.{limit_of, view_of}
use Rattle.hunt.specs.Known.{breaks}
use Rattle.hunt.proofs.SumsOverSeats.{has_last}
use Rattle.hunt.proofs.TriedNumbers.{after_verdict-claimed, did_end, did_round, done_skipped, falls_short, found_end, found_round}
use Rattle.hunt.proofs.worker.work.Goals as goal

pub conclude-requires-clause-claimed : goal.conclude-requires-clause-claimed
conclude-requires-clause-claimed g c =
    let v = view_of c.loop-claim.seat in let x = c.in-Some.claim in let draws = c.in-Some.ensures.some in
    let same = c.loop-claim.invariant.seat.1 in
    let claimed : (view_of c.look-bound.new.seat).claimed ≡ v.claimed ++ x ∷ [] = ap (λ u. u.claimed) c.look-bound.ensures.look.0 ∙ ap (λ u. u.claimed) draws.1 in
    (omega (arith, same, draws.0), subst (λ (xs : List ℕ). Has xs x) (sym claimed) (has_last x v.claimed))

pub loop-claim-smaller : goal.loop-claim-smaller
loop-claim-smaller g c =
    let v = view_of c.loop-claim.seat in let x = c.in-Some.claim in let draws = c.in-Some.ensures.some in
    let same = c.loop-claim.invariant.seat.1 in
    let claimed : (view_of c.conclude.new.seat).claimed ≡ v.claimed ++ x ∷ [] =
    ap (λ u. u.claimed) c.conclude.ensures.report ∙ (after_verdict-claimed (view_of c.look-bound.new.seat) x c.in_ok-verdict.verdict ∙ (ap (λ u. u.claimed) c.look-bound.ensures.look.0 ∙ ap (λ u. u.claimed) draws.1)) in
    falls_short (limit_of c.args.board.now) x v.claimed (view_of c.conclude.new.seat).claimed (omega (arith, same, draws.0)) draws.2 claimed

pub loop-claim-preserved : goal.loop-claim-preserved
loop-claim-preserved g c =
    let v = view_of c.loop-claim.seat in let x = c.in-Some.claim in let draws = c.in-Some.ensures.some in
    record {
      seat = c.conclude.ensures.seat;
      programs = c.in_ok-verdict.ensures.programs;
      did = did_round c.args.target.now v (view_of c.claim.new.seat) (view_of c.look-bound.new.seat) (view_of c.conclude.new.seat) x c.look-bound.result c.in_ok-verdict.verdict
          draws.1 c.look-bound.ensures.look.0 c.conclude.ensures.report c.in_ok-verdict.ensures.known c.loop-claim.invariant.did;
      found = found_round c.args.target.now v (view_of c.claim.new.seat) (view_of c.look-bound.new.seat) (view_of c.conclude.new.seat) x c.look-bound.result c.in_ok-verdict.verdict c.loop-claim.found c.conclude.new.found
          draws.1 c.look-bound.ensures.look.0 c.conclude.ensures.report c.conclude.ensures.found c.in_ok-verdict.ensures.known c.loop-claim.invariant.found;
    }

-- a number was skipped
pub returns-then-conclude : goal.returns-then-conclude
returns-then-conclude g c =
    let v = view_of c.loop-claim.seat in let x = c.in-Some.claim in let draws = c.in-Some.ensures.some in
    let known = c.in_ok-verdict.ensures.known in let report = c.conclude.ensures.report in record {
      seat = c.conclude.ensures.seat;
      done = done_skipped c.args.target.now v (view_of c.claim.new.seat) (view_of c.look-bound.new.seat) (view_of c.conclude.new.seat) x c.look-bound.result c.in_ok-verdict.verdict
          draws.1 c.look-bound.ensures.look.0 report known (sym c.conclude.ensures.done ∙ c.if-conclude.true);
      did = did_round c.args.target.now v (view_of c.claim.new.seat) (view_of c.look-bound.new.seat) (view_of c.conclude.new.seat) x c.look-bound.result c.in_ok-verdict.verdict
          draws.1 c.look-bound.ensures.look.0 report known c.loop-claim.invariant.did;
      found = found_round c.args.target.now v (view_of c.claim.new.seat) (view_of c.look-bound.new.seat) (view_of c.conclude.new.seat) x c.look-bound.result c.in_ok-verdict.verdict c.loop-claim.found c.conclude.new.found
          draws.1 c.look-bound.ensures.look.0 report c.conclude.ensures.found known c.loop-claim.invariant.found;
    }

-- no number is left
pub returns : goal.returns
returns g c =
    let ends = c.in_default.ensures.none in
    let v = view_of c.loop-claim.seat in let w = view_of c.claim.new.seat in let i = c.loop-claim.invariant in
    record {
      seat = c.claim.ensures.seat;
      done = inl ends.0;
      did = did_end (breaks c.args.target.now) v w ends.1 i.did;
      found = found_end c.args.target.now v w c.loop-claim.found ends.1 i.found;
    }
