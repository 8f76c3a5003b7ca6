use Rattle.std.proofs.Common.{◌∙◌}
use Rattle.std.proofs.lemmas.List.FromFn.{length-map-range_with_len}
use Rattle.hunt.specs.Outcomes.{outcome_of, outcomes_from}
use Rattle.hunt.proofs.TallyTotals.{tally_total}
use Rattle.hunt.proofs.laws.schedules_are_all_counted.Goals as goal

pub returns : goal.returns
returns c = λ plan s first n. tally_total (outcomes_from plan s first n) ∙ length-map-range_with_len (outcome_of plan s) first n
