use Rattle.std.proofs.Common.{◌≡◌, ◌++◌, ◌+◌, ◌*◌, drop, string_bytes}
use Rattle.commands.specs.StateTexts.{word_lines}
use Rattle.commands.proofs.state_text.push_line_words.Given as goal

abbrev pub invariant-loop-place : goal.invariant-loop-place
invariant-loop-place l =
    string_bytes l.text ++ word_lines l.view.memory (8 * l.number + l.place) (drop l.place l.names)
    ≡ string_bytes l.fn.text ++ word_lines l.view.memory (8 * l.number) l.names
