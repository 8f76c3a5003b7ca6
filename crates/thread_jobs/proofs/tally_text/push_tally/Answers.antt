use Rattle.std.proofs.Common.{◌≡◌, Some, slice_get, ap, sym, ◌∙◌}
use Rattle.std.specs.Prelude.{option_map}
use Rattle.thread_jobs.proofs.TallyTexts.{outcomes_more}
use Rattle.thread_jobs.proofs.tally_text.push_tally.Goals as goal

pub loop-place-preserved : goal.loop-place-preserved
loop-place-preserved c =
    let there : slice_get c.args.tally.now c.loop-place.place ≡ Some (c.unwrap-count.result.0.now, c.unwrap-count.result.1) =
    sym c.get.ensures ∙ ap (option_map (λ entry. (entry.0.now, entry.1))) c.unwrap-count.ensures in
    outcomes_more c.args.layout.now c.args.tally.now c.loop-place.place _ _ _ _ there c.in_ok-push_outcome.ensures c.loop-place.invariant
