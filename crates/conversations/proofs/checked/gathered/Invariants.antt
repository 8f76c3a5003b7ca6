use Rattle.std.proofs.Common.{◌≡◌, ◌++◌, [], drop}
use Rattle.conversations.proofs.checked.gathered.Given as goal

abbrev pub invariant-loop-step : goal.invariant-loop-step
invariant-loop-step l = record {
  rest : l.ahead.rest ≡ [];
  gathered : l.ahead.gathered ++ drop l.step-index l.steps ≡ l.steps;
}
