use Rattle.std.proofs.Common.{◌+◌, ◌++◌, [], ◌∷◌, ap₂, refl, sym, ◌∙◌}
use Rattle.std.proofs.lemmas.List.FromFn.{map-range_with_len_more}
use Rattle.hunt.specs.Outcomes.{outcome_of}
use Rattle.hunt.proofs.ends.outcomes_on.Goals as goal

pub loop-k-preserved : goal.loop-k-preserved
loop-k-preserved g c =
    let f = outcome_of c.args.plan.now c.args.machine.now in
    let first = c.args.range.first in
    record {
      outcomes = c.in_ok-push.ensures.items ∙ ap₂ (λ xs x. xs ++ x ∷ []) c.loop-k.invariant.outcomes c.in_ok-outcome_on.ensures.outcome
          ∙ sym (map-range_with_len_more f first c.loop-k.k (first + c.loop-k.k) refl);
      programs = c.outcome_on.ensures.programs;
    }
