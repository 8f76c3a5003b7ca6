use Rattle.causes.specs.Enough.{LeadsOn}
use Rattle.causes.proofs.moves.let_all_go.Given as goal

abbrev pub invariant-loop-place : goal.invariant-loop-place
invariant-loop-place l = LeadsOn l.initial.machine l.machine
