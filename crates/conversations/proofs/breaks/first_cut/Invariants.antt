use Rattle.std.proofs.Common.{◌≡◌, drop}
use Rattle.conversations.specs.Breaks.{cut_from}
use Rattle.conversations.proofs.breaks.first_cut.Given as goal

abbrev pub invariant-loop-made : goal.invariant-loop-made
invariant-loop-made l = record {
  alike : l.after ≡ l.before;
  rest : cut_from l.made l.lined l.declared l.before (drop l.made l.steps) ≡ cut_from 0 l.lined l.declared l.fn.before l.steps;
}
