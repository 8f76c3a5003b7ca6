use Rattle.std.proofs.Common.{◌≡◌, drop}
use Rattle.litmus_text.specs.TextLines.{line_at}
use Rattle.conversations.specs.Breaks.{is_line, some_placed}
use Rattle.conversations.proofs.moment.stands_in.Given as goal

abbrev pub invariant-loop-place : goal.invariant-loop-place
invariant-loop-place l =
    some_placed (λ place instr. is_line l.line (line_at l.lined.lines l.p l.recovery place)) l.place (drop l.place l.code)
    ≡ some_placed (λ place instr. is_line l.line (line_at l.lined.lines l.p l.recovery place)) 0 l.code
