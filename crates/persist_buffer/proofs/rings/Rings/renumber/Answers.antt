use Rattle.std.proofs.Common.{arith, ◌-◌, ◌≤◌, sym, ◌∙◌, subst}
use Rattle.persist_buffer.specs.Rings.{merged}
use Rattle.persist_buffer.specs.Renumbering.{IsLeast}
use Rattle.std.specs.Prelude.{count_by, nat_lt}
use Rattle.persist_buffer.proofs.RenumberedSerials.{entries-map, gap_clear, one_more, renumbered, small_from, numbers_all}
use Rattle.persist_buffer.proofs.rings.Rings.renumber.Goals as goal

pub lower-requires : goal.lower-requires
lower-requires c = gap_clear c.loop-least.self.stamped c.loop-least.from c.loop-least.least c.loop-least.invariant.least c.loop-least-test.true

pub loop-least-preserved : goal.loop-least-preserved
loop-least-preserved c = record {
  same = rw c.lower.ensures (entries-map c.loop-least.from (c.loop-least.least - c.loop-least.from) c.loop-least.self.stamped ∙ c.loop-least.invariant.same);
  numbered = rw c.lower.ensures (one_more c.loop-least.self.stamped c.loop-least.from c.loop-least.least c.loop-least.invariant.least c.loop-least-test.true c.loop-least.invariant.numbered);
  least = c.least-least-in-loop-least.ensures;
}

pub invariant_of-self : goal.invariant_of-self
invariant_of-self c =
    let left : IsLeast (merged c.self.inside.rings.items) c.loop-least.from c.loop-least.least = subst (λ v. IsLeast v.stamped c.loop-least.from c.loop-least.least) (sym c.self.view_is) c.loop-least.invariant.least in
    let so_far : c.loop-least.from ≤ count_by (λ s. nat_lt s.serial c.loop-least.from) (merged c.self.inside.rings.items) = subst (λ v. c.loop-least.from ≤ count_by (λ s. nat_lt s.serial c.loop-least.from) v.stamped) (sym c.self.view_is) c.loop-least.invariant.numbered in
    let small = small_from _ _ _ c.loop-least.from c.self.invariant.0 so_far in
    (renumbered _ _ _ c.loop-least.from c.loop-least.least c.self.invariant.0 left c.loop-least-test.false (omega arith), c.self.invariant.1)

pub returns-clause-next : goal.returns-clause-next
returns-clause-next c =
    let so_far : c.loop-least.from ≤ count_by (λ s. nat_lt s.serial c.loop-least.from) (merged c.self.inside.rings.items) = subst (λ v. c.loop-least.from ≤ count_by (λ s. nat_lt s.serial c.loop-least.from) v.stamped) (sym c.self.view_is) c.loop-least.invariant.numbered in
    let small = small_from _ _ _ c.loop-least.from c.self.invariant.0 so_far in
    omega arith

pub returns-clause-numbers : goal.returns-clause-numbers
returns-clause-numbers c =
    let left : IsLeast (merged c.self.inside.rings.items) c.loop-least.from c.loop-least.least = subst (λ v. IsLeast v.stamped c.loop-least.from c.loop-least.least) (sym c.self.view_is) c.loop-least.invariant.least in
    let so_far : c.loop-least.from ≤ count_by (λ s. nat_lt s.serial c.loop-least.from) (merged c.self.inside.rings.items) = subst (λ v. c.loop-least.from ≤ count_by (λ s. nat_lt s.serial c.loop-least.from) v.stamped) (sym c.self.view_is) c.loop-least.invariant.numbered in
    let small = small_from _ _ _ c.loop-least.from c.self.invariant.0 so_far in
    numbers_all _ _ c.loop-least.from (renumbered _ _ _ c.loop-least.from c.loop-least.least c.self.invariant.0 left c.loop-least-test.false (omega arith)) so_far
