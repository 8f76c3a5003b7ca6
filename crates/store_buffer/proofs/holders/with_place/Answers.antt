use Rattle.std.proofs.Common.{◌<◌, arith}
use Rattle.order_table.specs.declared.masks.TheConstants.{PLACES}
use Rattle.store_buffer.proofs.FreePlaces.{free_added, held_added, free_where, held_where}
use Rattle.store_buffer.proofs.holders.with_place.Goals as goal

pub returns-then-is_none : goal.returns-then-is_none
returns-then-is_none c =
    let room : c.args.place < PLACES = omega arith in
    free_added c.args.entries.now c.args.place PLACES c.args.free room c.requires.before (free_where c.args.entries.now c.args.place c.held_by.result c.requires.there c.held_by.ensures.value c.if-is_none.ensures)

pub returns-else-is_none : goal.returns-else-is_none
returns-else-is_none c =
    let room : c.args.place < PLACES = omega arith in
    held_added c.args.entries.now c.args.place PLACES c.args.free room c.requires.before (held_where c.args.entries.now c.args.place c.held_by.result c.held_by.ensures.value c.if-is_none.ensures)
