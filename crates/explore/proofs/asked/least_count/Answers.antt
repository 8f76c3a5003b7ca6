use Rattle.std.proofs.Common.{rules, ◌≡◌, ◌≢◌, Less, nat_cmp}
use Rattle.std.specs.Cmp.Lexicographic.{slice_cmp}
use Rattle.explore.proofs.AskedSteps.{least_begins, less_found, none_less}
use Rattle.explore.proofs.asked.least_count.Goals.{then-eq, else-eq}
use Rattle.explore.proofs.asked.least_count.Goals as goal

pub loop-count-init : goal.loop-count-init
loop-count-init c = record { least = least_begins c.args.pending.now.memory c.args.line c.args.least; values = c.in_ok-values.ensures }

pub loop-count-preserved : goal.loop-count-preserved
loop-count-preserved c =
    let m = c.args.pending.now.memory in
    let others = c.in_ok-others.others.items in
    let values = c.loop-count.values.items in
    elim c.if-eq.branch [
      | then-eq w ↦
          let less : slice_cmp nat_cmp others values ≡ Less = search rules in
          rw (w.first-is, w.values-is) (record {
            least = less_found m c.args.line c.args.least c.loop-count.count c.loop-count.first others values c.loop-count.invariant.least c.loop-count.invariant.values c.in_ok-others.ensures less;
            values = c.in_ok-others.ensures;
          })
      | else-eq w ↦
          let not_less : slice_cmp nat_cmp others values ≢ Less = search rules in
          rw (w.first-is, w.values-is) (record {
            least = none_less m c.args.line c.args.least c.loop-count.count c.loop-count.first others values c.loop-count.invariant.least c.loop-count.invariant.values c.in_ok-others.ensures not_less;
            values = c.loop-count.invariant.values;
          })
    ]
