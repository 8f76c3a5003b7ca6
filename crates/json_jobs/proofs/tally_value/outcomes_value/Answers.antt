use Rattle.std.proofs.Common.{◌≡◌, Some, slice_get, ap, sym, ◌∙◌}
use Rattle.std.specs.Prelude.{option_map}
use Rattle.json_jobs.proofs.Pairs.{outcomes_more}
use Rattle.json_jobs.proofs.tally_value.outcomes_value.Goals as goal

pub loop-place-preserved : goal.loop-place-preserved
loop-place-preserved c =
    let there : slice_get c.args.counted.now c.loop-place.place ≡ Some (c.unwrap-count.result.0.now, c.unwrap-count.result.1) =
    sym c.get.ensures ∙ ap (option_map (λ entry. (entry.0.now, entry.1))) c.unwrap-count.ensures in
    outcomes_more c.args.layout.now c.args.counted.now c.loop-place.place _ _ _ _ _ there c.in_ok-push.ensures.ok c.in_ok-outcome_value.ensures c.loop-place.invariant
