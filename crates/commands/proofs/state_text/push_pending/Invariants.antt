use Rattle.std.proofs.Common.{◌≡◌, ◌++◌, drop, codes, string_bytes}
use Rattle.commands.specs.StateTexts.{placed_lines, pending_text}
use Rattle.commands.proofs.state_text.push_pending.Given as goal

abbrev pub invariant-loop-i : goal.invariant-loop-i
invariant-loop-i l =
    string_bytes l.text ++ placed_lines (codes "pend ") (pending_text l.layout) l.i-counter (drop l.i-counter l.pending)
    ≡ string_bytes l.fn.text ++ placed_lines (codes "pend ") (pending_text l.layout) 0 l.pending
