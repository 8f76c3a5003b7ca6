use Rattle.std.proofs.Common.{◌≡◌, ◌++◌, drop, string_bytes}
use Rattle.conversations.specs.Listed.{instruction_line, placed_texts}
use Rattle.conversations.proofs.listed.push_instructions.Given as goal

abbrev pub invariant-loop-place : goal.invariant-loop-place
invariant-loop-place l =
    string_bytes l.text ++ placed_texts (instruction_line l.lined l.p l.recovery l.at) l.place (drop l.place l.code)
    ≡ string_bytes l.fn.text ++ placed_texts (instruction_line l.lined l.p l.recovery l.at) 0 l.code
