use Rattle.std.proofs.Common.{◌≡◌, ◌++◌, drop, string_bytes}
use Rattle.commands.specs.StateTexts.{word_texts}
use Rattle.commands.proofs.state_text.push_words.Given as goal

abbrev pub invariant-loop-number : goal.invariant-loop-number
invariant-loop-number l =
    string_bytes l.text ++ word_texts l.view.memory l.number (drop l.number l.layout)
    ≡ string_bytes l.fn.text ++ word_texts l.view.memory 0 l.layout
