-- The tally of more schedules.
use Rattle.std.proofs.Common.{◌≡◌, ℕ, ◌+◌, ◌≤◌, List, length, sym, ap, ap₂, ◌∙◌, arith}
use Rattle.std.specs.Prelude.{fold}
use Rattle.std.proofs.lemmas.List.FromFn.{length-map-range_with_len}
use Rattle.machine.specs.State.{State}
use Rattle.schedule.specs.declared.plan.Plan.{Plan}
use Rattle.hunt.specs.Outcomes.{Observed, is_same, outcome_of, outcomes_from}
use Rattle.schedule.specs.Ranges.{max_schedules}
use Rattle.hunt.specs.Tallies.{counted, tally_of, total_of}
use Rattle.hunt.proofs.TallyTotals.{tally_goes_on, tally_total}
use Rattle.hunt.proofs.OutcomesJoin.{outcomes_join}

module _ (plan : Plan) (s : State) (first done count : ℕ) (found : List Observed) (tally : List (Observed × ℕ)) where
  -- a tally and the outcomes of the schedules after it
  pub more_counted : (new : List (Observed × ℕ)) → tally ≡ tally_of is_same (outcomes_from plan s first done) → found ≡ outcomes_from plan s (first + done) count
      → new ≡ fold counted tally found → new ≡ tally_of is_same (outcomes_from plan s first (done + count))
  more_counted new was is now =
      now ∙ ap₂ (fold counted) was is ∙ tally_goes_on (outcomes_from plan s first done) (outcomes_from plan s (first + done) count)
      ∙ ap (tally_of is_same) (sym (outcomes_join plan s first done count))

  pub more_fit : tally ≡ tally_of is_same (outcomes_from plan s first done) → found ≡ outcomes_from plan s (first + done) count → (first + done) + count ≤ max_schedules
      → total_of tally + length found ≤ max_schedules
  more_fit was is low =
      let total = ap total_of was ∙ tally_total (outcomes_from plan s first done) in
      let before = length-map-range_with_len (outcome_of plan s) first done in
      let long = ap length is ∙ length-map-range_with_len (outcome_of plan s) (first + done) count in
      omega (arith, total, before, long, low)
