use Rattle.std.proofs.Common.{◌≡◌, drop}
use Rattle.conversations.specs.Breaks.{break_at}
use Rattle.conversations.proofs.breaks.break_at.Given as goal

abbrev pub invariant-loop-one : goal.invariant-loop-one
invariant-loop-one l = break_at l.lined (drop l.one-index l.declared) l.before l.seen l.after ≡ break_at l.lined l.declared l.before l.seen l.after
