use Rattle.std.proofs.Common.{rules, ◌≡◌, arith}
use Rattle.hunt.specs.Tallies.{count_in}
use Rattle.hunt.proofs.TallyTotals.{count_within}
use Rattle.hunt.proofs.outcome_counts.OutcomeCounts.count.Goals as goal

pub overflow_add-count : goal.overflow_add-count
overflow_add-count c =
    let is : c.or_insert-count.result.now ≡ count_in c.args.self.now c.args.outcome = search rules in
    let within = count_within c.args.self.now c.args.outcome in let few = c.requires in omega (arith, is, within, few)
