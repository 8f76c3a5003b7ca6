use Rattle.std.proofs.Common.{◌≡◌, drop}
use Rattle.conversations.specs.Breaks.{has_breaks}
use Rattle.conversations.proofs.breaks.has_breaks.Given as goal

abbrev pub invariant-loop-one : goal.invariant-loop-one
invariant-loop-one l = has_breaks (drop l.one-index l.declared) ≡ has_breaks l.declared
