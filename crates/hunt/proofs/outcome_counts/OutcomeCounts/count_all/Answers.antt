use Rattle.std.proofs.Common.{rules, ◌≡◌, ◌∷◌, length, ap, sym, ◌∙◌, arith}
use Rattle.std.specs.Prelude.{fold}
use Rattle.hunt.specs.Tallies.{counted, total_of}
use Rattle.hunt.proofs.TallyTotals.{counted_total}
use Rattle.hunt.proofs.outcome_counts.OutcomeCounts.count_all.Goals as goal

pub loop-outcome-preserved : goal.loop-outcome-preserved
loop-outcome-preserved c =
    let rest : c.loop-outcome.outcome-iterator.rest.items ≡ c.in-Some.outcome ∷ c.next.new.self.rest.items = search rules in
    let now : c.count.new.self ≡ counted c.loop-outcome.self c.in-Some.outcome = c.in_ok-count.ensures in
    let counts = c.loop-outcome.invariant.counts in
    let few = c.loop-outcome.invariant.few in
    let long = ap length rest in
    let total = ap total_of now ∙ counted_total c.loop-outcome.self c.in-Some.outcome in
    record {
      counts = ap (λ t. fold counted t c.next.new.self.rest.items) now ∙ ap (fold counted c.loop-outcome.self) (sym rest) ∙ counts;
      few = omega (arith, few, long, total);
    }
