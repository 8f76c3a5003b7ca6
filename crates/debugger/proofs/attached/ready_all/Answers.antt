use Rattle.std.proofs.Common.{arith, drop, length}
use Rattle.std.proofs.lemmas.List.{take-append-le, take_all}
use Rattle.debugger.proofs.attached.ready_all.Goals as goal

pub returns-clause-room : goal.returns-clause-room
returns-clause-room g c =
    rw (take-append-le c.args.watchers.now.len c.make_room.new.watchers (drop (length c.make_room.new.watchers) c.args.watchers.now.items) (omega arith), take_all c.args.watchers.now.len c.make_room.new.watchers (omega arith)) c.make_room.ensures.room
