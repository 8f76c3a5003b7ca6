use Rattle.store_buffer.proofs.MasksNameTheHolder.{operations_removed}
use Rattle.store_buffer.proofs.IndexOfNewestWrites.{index_after_remove}
use Rattle.store_buffer.proofs.buffer.Buffer.remove.Goals as goal

pub free_places-self-inside-requires-clause-operations : goal.free_places-self-inside-requires-clause-operations
free_places-self-inside-requires-clause-operations c =
    rw (c.take.ensures, c.as_slice-entries.ensures.value, c.remove-entry.ensures.items) (operations_removed c.self.inside.operations c.self.inside.entries.items c.args.i c.self.invariant.0)

pub invariant_of-self : goal.invariant_of-self
invariant_of-self c =
    rw (c.take.ensures, c.remove-entry.ensures.items) (
      operations_removed c.self.inside.operations c.self.inside.entries.items c.args.i c.self.invariant.0,
      index_after_remove
          c.self.inside.entries.items
          c.args.i
          c.remove-entry.result
          c.self.inside.after_newest
          c.note.new.after_newest
          c.note_from.new.after_newest
          (rw c.self.view_is c.requires.there)
          c.remove-entry.ensures.value
          (rw c.self.view_is c.requires.free)
          c.self.invariant.1
          c.note.ensures
          (rw (c.as_slice-entries.ensures.value, c.remove-entry.ensures.items) at c.note_from.ensures),
      rw (c.as_slice-entries.ensures.value, c.remove-entry.ensures.items) at c.free_places-self-inside.ensures,
    )
