use Rattle.std.proofs.Common.{◌≡◌, ◌+◌, ℕ, sym, subst, arith, Some, Result, Ok, Err, List, All, OnOk, vec_len}
use Rattle.std.proofs.lemmas.List.Elements.{All-pop, All-push}
use Rattle.hunt.specs.declared.errand.Returned.{Returned}
use Rattle.hunt.specs.declared.seats.Board.{Board}
use Rattle.hunt.specs.declared.search.Target.{Target}
use Rattle.hunt.specs.Errands.{WorksFor}
use Rattle.hunt.specs.Returns.{Worked}
use Rattle.hunt.proofs.hunts.join_all.Goals as goal

-- one of the workers came back
one_moved : {E : Type 0} (worked : Result (Unit {0}) E) (back workers more fewer all : ℕ) → workers ≡ fewer + 1 → more ≡ back + 1
    → OnOk worked (back + workers ≡ all) → OnOk worked (more + fewer ≡ all)
one_moved (Ok done) back workers more fewer all left right whole = omega (arith, left, right, whole)
one_moved (Err fault) back workers more fewer all left right whole = tt

pub loop-worker-preserved-in-Ok : goal.loop-worker-preserved-in-Ok
loop-worker-preserved-in-Ok g c =
    let worker = c.in-Some.worker in
    let board = c.args.board.now in
    let target = c.args.target.now in
    let P = Worked board target in
    let i = c.loop-worker.invariant in
    let rest = All-pop (WorksFor board target) c.loop-worker.workers.items c.pop.new.self.items (Some worker) c.in-Some.ensures.items i.workers in
    let for = rest.1 in
    let done : P c.in-Ok.returned = subst (λ (z : Board × Target). Worked z.0 z.1 c.in-Ok.returned) (λ i. (for.0 i, for.1 i)) c.in-Ok.ensures in
    let fewer = c.in-Some.ensures.len in
    let more = c.push_reserved.ensures.len in
    record {
      workers = rest.0;
      back = subst {A = List Returned} (All P) (sym {A = List Returned} c.push_reserved.ensures.items) (All-push P c.loop-worker.back.items c.in-Ok.returned i.back done);
      length = one_moved c.loop-worker.worked (vec_len c.loop-worker.back) (vec_len c.loop-worker.workers) (vec_len c.push_reserved.new.self) (vec_len c.pop.new.self) (vec_len c.args.workers)
          (omega (arith, fewer)) (omega (arith, more)) i.length;
      room = let a = i.room in let b = c.push_reserved.ensures.capacity in omega arith;
    }
