use Rattle.std.proofs.Common.{◌≡◌, drop}
use Rattle.conversations.specs.Breaks.{some_placed, stands_in_one}
use Rattle.conversations.proofs.moment.stands_in_some.Given as goal

abbrev pub invariant-loop-p : goal.invariant-loop-p
invariant-loop-p l = some_placed (stands_in_one l.lined l.line) l.p (drop l.p l.processors) ≡ some_placed (stands_in_one l.lined l.line) 0 l.processors
