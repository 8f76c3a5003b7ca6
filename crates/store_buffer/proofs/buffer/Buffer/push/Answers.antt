use Rattle.std.proofs.Common.{◌∙◌, sym, [], ◌∷◌}
use Rattle.store_buffer.proofs.FreePlaces.{free_pushed, free_grown}
use Rattle.store_buffer.proofs.MasksNameTheHolder.{operations_pushed}
use Rattle.store_buffer.proofs.IndexOfNewestWrites.{index_pushed}
use Rattle.store_buffer.proofs.buffer.Buffer.push.Goals as goal

pub with_place-self-inside-requires-clause-before : goal.with_place-self-inside-requires-clause-before
with_place-self-inside-requires-clause-before c =
    rw (c.as_slice-entries.ensures.value, c.push-2.ensures.items, c.len-place.ensures.value) (c.self.invariant.2 ∙ sym (free_pushed c.self.inside.entries.items (c.args.entry ∷ [])))

pub invariant_of-self : goal.invariant_of-self
invariant_of-self c =
    let free = rw (c.as_slice-entries.ensures.value, c.push-2.ensures.items) at c.with_place-self-inside.ensures in
    rw (c.push.ensures, c.push-2.ensures.items) (
      operations_pushed c.self.inside.operations c.self.inside.entries.items c.args.entry c.kind_of.result c.line_named.result c.self.invariant.0 c.kind_of.ensures c.line_named.ensures.value,
      index_pushed c.self.inside.after_newest c.note.new.after_newest c.self.inside.entries.items c.args.entry c.self.invariant.1 (rw c.len-place.ensures.value at c.note.ensures),
      free ∙ free_grown c.self.inside.entries.items c.args.entry c.len-place.result c.len-place.ensures.value,
    )
