use Rattle.std.proofs.Common.{◌≡◌, ◌++◌, List, ℕ, length, ap, sym, ◌∙◌}
use Rattle.std.specs.Prelude.{Option, slice_get}
use Rattle.std.proofs.lemmas.Result.{on_ok_weaker}
use Rattle.machine.specs.State.{Processor}
use Rattle.store_buffer.specs.declared.entry.Entry.{Entry}
use Rattle.explore.specs.Codes.{coded}
use Rattle.explore.specs.Keys.{entries_key}
use Rattle.explore.specs.Outcomes.{trap_numbers}
use Rattle.explore.proofs.KeysAreWritten.{coded_then, number_then, processor_read}
use Rattle.explore.proofs.key.push_processor.Goals as goal

pub returns : goal.returns
returns c =
    let was : List ℕ = c.args.bytes.now.items in
    let one : List ℕ = c.push_numbers.new.bytes.items in
    let two : List ℕ = c.push_numbers-2.new.bytes.items in
    let three : List ℕ = c.push_numbers-3.new.bytes.items in
    let four : List ℕ = c.push_number.new.bytes.items in
    let last : List ℕ = c.push_entries.new.bytes.items in
    let found : Option Processor = slice_get c.args.view.now.processors c.args.p in
    let head : List ℕ = c.in-Some.head in
    let values : List ℕ = c.in-Some-registers.registers in
    let buffer : List Entry = c.in-Some-buffer.buffer.now in
    let trap = c.trap.result in
    let read = processor_read found head values trap buffer (sym c.in-Some.ensures) c.trap.ensures (sym c.in-Some-registers.ensures) (sym c.in-Some-buffer.ensures.value) in
    let with_trap : two ≡ one ++ coded (trap_numbers trap) = c.in_ok-push_numbers-2.ensures ∙ ap (λ (xs : List ℕ). one ++ coded xs) c.trap-2.ensures in
    on_ok_weaker c.push_entries.result (λ (ends : last ≡ four ++ coded (entries_key buffer)).
    let with_buffer = number_then three four last (length buffer) (entries_key buffer) c.in_ok-push_number.ensures ends in
    let with_values = coded_then two three last values _ c.in_ok-push_numbers-3.ensures with_buffer in
    coded_then was one last head _ c.in_ok-push_numbers.ensures (coded_then one two last (trap_numbers trap) _ with_trap with_values) ∙ ap (λ (xs : List ℕ). was ++ coded xs) read)
    c.push_entries.ensures
