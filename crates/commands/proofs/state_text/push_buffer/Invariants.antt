use Rattle.std.proofs.Common.{◌≡◌, ◌++◌, drop, codes, string_bytes}
use Rattle.commands.specs.StateTexts.{placed_lines, entry_text}
use Rattle.commands.proofs.state_text.push_buffer.Given as goal

abbrev pub invariant-loop-i : goal.invariant-loop-i
invariant-loop-i l =
    string_bytes l.text ++ placed_lines (codes "  buf ") (entry_text l.layout) l.i-counter (drop l.i-counter l.buffer)
    ≡ string_bytes l.fn.text ++ placed_lines (codes "  buf ") (entry_text l.layout) 0 l.buffer
