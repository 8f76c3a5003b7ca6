use Rattle.std.proofs.Common.{◌≡◌, ◌++◌, drop, string_bytes}
use Rattle.std.specs.List.{flat_map}
use Rattle.commands.specs.OutcomeTexts.{register_text, registers_text}
use Rattle.commands.proofs.outcome_text.push_registers.Given as goal

abbrev pub invariant-loop-r : goal.invariant-loop-r
invariant-loop-r l =
    string_bytes l.text ++ flat_map (register_text l.p l.values) (drop l.r-index l.r-items)
    ≡ string_bytes l.fn.text ++ registers_text l.p l.values
