use Rattle.std.proofs.Common.{◌≡◌, Some, sym, ◌∙◌, ap}
use Rattle.std.specs.Prelude.{slice_get}
use Rattle.std.proofs.lemmas.Option.{slice_get-get_or}
use Rattle.store_buffer.specs.declared.entry.Entry.{Entry}
use Rattle.store_buffer.proofs.MasksNameTheHolder.{same_holder}
use Rattle.store_buffer.proofs.holders.held_by.Goals as goal

pub returns-clause-value : goal.returns-clause-value
returns-clause-value c =
    let entry = c.in_ok-entry.entry.now in
    let found = c.in_ok-entry.ensures.lookup in
    let there : slice_get c.args.entries.now c.args.i ≡ Some entry = slice_get-get_or c.args.entries.now c.args.i entry found.3.0 ∙ ap (λ (e : Entry). Some e) (sym found.1) in
    rw (c.holder.ensures.value, c.kind_of.ensures, c.line_named.ensures.value, c.requires, there) (same_holder c.args.entries.now c.args.i entry)
