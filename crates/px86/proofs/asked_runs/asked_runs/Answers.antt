use Rattle.px86.proofs.Questions.{first_so, second_not}
use Rattle.px86.proofs.asked_runs.asked_runs.Goals as goal

pub returns-then-may_ask : goal.returns-then-may_ask
returns-then-may_ask c = record {
  asks = first_so _ _ c.if-may_ask.ensures;
  within = second_not _ _ c.if-may_ask.ensures;
  all = c.value.ensures;
  ends = c.value-then-may_ask.ensures;
  recovered = c.value-then-may_ask-2.ensures;
  before_crash = c.is_given.ensures;
  states = c.in_ok-states.ensures;
}
