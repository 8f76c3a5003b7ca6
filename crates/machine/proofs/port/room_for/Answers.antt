use Rattle.std.proofs.Common.{◌≡◌, true, arith}
use Rattle.std.specs.Prelude.{◌==◌}
use Rattle.std.proofs.lemmas.Bool.Decides.{nat_tests}
use Rattle.persist_buffer.specs.Memories.{coherent}
use Rattle.machine.proofs.port.room_for.Goals as goal

pub returns-in-Write : goal.returns-in-Write
returns-in-Write c = rw c.in-Write.is c.write_room.ensures

pub returns-then-value : goal.returns-then-value
returns-then-value c =
    let same : (c.in-WriteIf.value == coherent c.args.pending.now.memory c.in-WriteIf.word) ≡ true = grind (arith, nat_tests, c.if-value.true, c.value.ensures) in
    rw (c.in-WriteIf.is, same) c.write_room-then-value.ensures
