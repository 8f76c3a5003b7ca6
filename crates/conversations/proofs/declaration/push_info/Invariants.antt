use Rattle.std.proofs.Common.{◌≡◌, ◌++◌, drop, string_bytes}
use Rattle.conversations.specs.Desks.{info_text}
use Rattle.conversations.proofs.declaration.push_info.Given as goal

abbrev pub invariant-loop-one : goal.invariant-loop-one
invariant-loop-one l = string_bytes l.text ++ info_text (drop l.one-index l.declared) ≡ string_bytes l.fn.text ++ info_text l.declared
