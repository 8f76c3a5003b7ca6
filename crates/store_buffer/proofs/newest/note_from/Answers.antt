use Rattle.store_buffer.proofs.IndexOfNewestWrites.{noted_more}
use Rattle.store_buffer.proofs.newest.note_from.Goals as goal

pub loop-place-preserved : goal.loop-place-preserved
loop-place-preserved c =
    noted_more
    c.args.entries.now
    c.args.i
    c.loop-place.place
    c.index-entries-place.result
    c.loop-place.auto.place
    c.loop-place-test.true
    c.loop-place.after_newest
    c.note.new.after_newest
    c.args.after_newest.now
    c.loop-place.invariant
    (rw c.index-entries-place.is at c.note.ensures)
