use Rattle.causes.specs.Enough.{LeadsOn}
use Rattle.causes.proofs.moves.let_go_on.Given as goal

abbrev pub invariant-loop : goal.invariant-loop
invariant-loop l = LeadsOn l.initial.machine l.machine
