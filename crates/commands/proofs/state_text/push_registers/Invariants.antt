use Rattle.std.proofs.Common.{◌≡◌, ◌++◌, take, string_bytes}
use Rattle.std.specs.Prelude.{IfSome, slice_get}
use Rattle.std.specs.List.{flat_map}
use Rattle.commands.specs.StateTexts.{register_line}
use Rattle.commands.proofs.state_text.push_registers.Given as goal

abbrev pub invariant-loop-r : goal.invariant-loop-r
invariant-loop-r l =
    IfSome (slice_get l.view.processors l.p)
    (λ c. string_bytes l.text ≡ string_bytes l.fn.text ++ flat_map (register_line c.regs) (take l.r-index l.r-items))
