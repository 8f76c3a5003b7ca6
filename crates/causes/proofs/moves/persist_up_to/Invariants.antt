use Rattle.causes.specs.Enough.{LeadsOn}
use Rattle.causes.proofs.moves.persist_up_to.Given as goal

abbrev pub invariant-loop : goal.invariant-loop
invariant-loop l = LeadsOn l.initial.machine l.machine
