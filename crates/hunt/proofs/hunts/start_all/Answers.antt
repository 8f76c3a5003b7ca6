use Rattle.std.proofs.Common.{◌≡◌, ◌+◌, ◌≤◌, rules, sym, subst, arith, Some, All, vec_len}
use Rattle.std.proofs.lemmas.List.Elements.{All-pop, All-push}
use Rattle.std.specs.Arc.{arc_value}
use Rattle.hunt.specs.Errands.{WorksFor}
use Rattle.hunt.specs.Returns.{IsReady}
use Rattle.hunt.proofs.hunts.start_all.Goals as goal

pub start-requires : goal.start-requires
start-requires g c =
    let ready = IsReady (arc_value c.args.task.now).board in (
      search rules,
      (
        search rules,
        (
          search rules,
          (All-pop ready c.loop-seat.seats.items c.pop.new.self.items (Some c.in-Some.seat) c.in-Some.ensures.items c.loop-seat.invariant.seats).1,
        ),
      ),
    )

pub loop-seat-preserved : goal.loop-seat-preserved
loop-seat-preserved g c =
    let task = arc_value c.args.task.now in
    let P = WorksFor task.board task.target in
    let i = c.loop-seat.invariant in
    let fewer = c.in-Some.ensures.len in
    let more = c.push_reserved.ensures.len in
    let same = c.push_reserved.ensures.capacity in
    record {
      seats = (All-pop (IsReady task.board) c.loop-seat.seats.items c.pop.new.self.items (Some c.in-Some.seat) c.in-Some.ensures.items i.seats).0;
      each = subst (All P) (sym c.push_reserved.ensures.items) (All-push P c.loop-seat.workers.items c.in_ok-start.field-0 i.each c.in_ok-start.ensures);
      length = let a = i.length in omega (arith, fewer, more, a);
      room = let a = i.room in omega (arith, fewer, more, same, a);
    }
