use Rattle.std.proofs.Common.{◌≡◌, true, subst}
use Rattle.hunt.specs.Outcomes.{is_same}
use Rattle.hunt.specs.Same.{own_outcome, same_outcome}
use Rattle.hunt.proofs.laws.same_outcomes_are_equal.Goals as goal

pub returns : goal.returns
returns c = λ a b. (same_outcome a b, λ e. subst (λ z. is_same a z ≡ true) e (own_outcome a))
