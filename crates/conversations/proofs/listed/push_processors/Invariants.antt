use Rattle.std.proofs.Common.{◌≡◌, ◌++◌, drop, string_bytes}
use Rattle.conversations.specs.Listed.{listed_at, placed_texts}
use Rattle.conversations.proofs.listed.push_processors.Given as goal

abbrev pub invariant-loop-p : goal.invariant-loop-p
invariant-loop-p l =
    string_bytes l.text ++ placed_texts (listed_at l.lined l.view) l.p (drop l.p l.processors)
    ≡ string_bytes l.fn.text ++ placed_texts (listed_at l.lined l.view) 0 l.processors
