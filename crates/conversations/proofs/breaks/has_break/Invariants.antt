use Rattle.std.proofs.Common.{◌≡◌, drop}
use Rattle.conversations.specs.Breaks.{has_break}
use Rattle.conversations.proofs.breaks.has_break.Given as goal

abbrev pub invariant-loop-one : goal.invariant-loop-one
invariant-loop-one l = has_break (drop l.one-index l.declared) l.id ≡ has_break l.declared l.id
