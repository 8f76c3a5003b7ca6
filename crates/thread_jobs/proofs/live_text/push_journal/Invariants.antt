use Rattle.std.proofs.Common.{◌≡◌, ◌++◌, drop, codes, string_bytes}
use Rattle.commands.specs.StateTexts.{placed_lines}
use Rattle.thread_jobs.specs.LiveTexts.{call_line}
use Rattle.thread_jobs.proofs.live_text.push_journal.Given as goal

abbrev pub invariant-loop-i : goal.invariant-loop-i
invariant-loop-i l =
    string_bytes l.text ++ placed_lines (codes "") (call_line l.layout) l.i (drop l.i l.journal)
    ≡ string_bytes l.fn.text ++ placed_lines (codes "") (call_line l.layout) 0 l.journal
