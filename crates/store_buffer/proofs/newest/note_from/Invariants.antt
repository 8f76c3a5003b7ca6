use Rattle.store_buffer.proofs.IndexOfNewestWrites.{AreNoted, part}
use Rattle.store_buffer.proofs.newest.note_from.Given as goal

abbrev pub invariant-loop-place : goal.invariant-loop-place
invariant-loop-place l = AreNoted l.after_newest l.fn.after_newest l.i (part l.i l.place l.entries)
