use Rattle.std.proofs.Common.{◌≡◌, drop}
use Rattle.conversations.specs.Breaks.{comes_to, some_placed}
use Rattle.conversations.proofs.moment.one_comes_to.Given as goal

abbrev pub invariant-loop-p : goal.invariant-loop-p
invariant-loop-p l =
    some_placed (λ p programs. comes_to l.lined l.line l.before l.after p) l.p (drop l.p l.processors)
    ≡ some_placed (λ p programs. comes_to l.lined l.line l.before l.after p) 0 l.processors
