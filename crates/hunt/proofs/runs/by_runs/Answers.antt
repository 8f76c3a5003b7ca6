use Rattle.std.proofs.Common.{◌≡◌, ◌<◌, ◌*◌, ◌-◌, ℕ, List, sym, ap, ◌∙◌, subst, arith, All}
use Rattle.std.specs.List.{AllZip, range_with_len}
use Rattle.rayon.specs.Numbers.{nat_range}
use Rattle.rayon.proofs.ToStd.{nat_range-All}
use Rattle.hunt.specs.Runs.{AreRuns}
use Rattle.hunt.proofs.RunsOfRanges.{Gives, all_runs}
use Rattle.hunt.proofs.runs.by_runs.Goals as goal

pub collect-requires-clause-ready : goal.collect-requires-clause-ready
collect-requires-clause-ready g c κs κ =
    let ends = c.into_par_iter.ensures in
    let count = c.with_min_len.result.base.f.2.n in
    let runs = c.div_ceil-runs.result in
    let start_is : c.with_min_len.result.base.base.start ≡ 0 = ap (λ it. it.base.start) c.with_min_len.ensures.base ∙ (ap (λ it. it.start) c.map-chain.ensures.base ∙ ends.0) in
    let end_is : c.with_min_len.result.base.base.end ≡ runs = ap (λ it. it.base.end) c.with_min_len.ensures.base ∙ (ap (λ it. it.end) c.map-chain.ensures.base ∙ ends.1) in
    let count_is : count ≡ c.args.range.n = ap (λ it. it.f.2.n) c.with_min_len.ensures.base ∙ ap (λ f. f.2.n) c.map-chain.ensures.f in
    let so_many = c.div_ceil-runs.ensures in
    let inside = nat_range-All (λ i. 256 * i < count) 0 runs (λ i low high. omega (arith, high, so_many, count_is)) in
    λ k d lt. ((subst (λ (z : ℕ × ℕ). All (λ i. 256 * i < count) (nat_range z.0 z.1)) (λ i. (sym start_is i, sym end_is i)) inside) k d lt, λ y p. tt)

pub returns-in-Ok-made : goal.returns-in-Ok-made
returns-in-Ok-made g c =
    let ends = c.into_par_iter.ensures in
    let runs = c.div_ceil-runs.result in
    let counting = c.args.count.now in
    let first = c.args.range.first in
    let count = c.args.range.n in
    let start_is : c.with_min_len.result.base.base.start ≡ 0 = ap (λ it. it.base.start) c.with_min_len.ensures.base ∙ (ap (λ it. it.start) c.map-chain.ensures.base ∙ ends.0) in
    let end_is : c.with_min_len.result.base.base.end ≡ runs = ap (λ it. it.base.end) c.with_min_len.ensures.base ∙ (ap (λ it. it.end) c.map-chain.ensures.base ∙ ends.1) in
    let counting_is : c.with_min_len.result.base.f.0.now ≡ counting = ap (λ it. it.f.0.now) c.with_min_len.ensures.base ∙ ap (λ f. f.0.now) c.map-chain.ensures.f in
    let first_is : c.with_min_len.result.base.f.2.first ≡ first = ap (λ it. it.f.2.first) c.with_min_len.ensures.base ∙ ap (λ f. f.2.first) c.map-chain.ensures.f in
    let count_is : c.with_min_len.result.base.f.2.n ≡ count = ap (λ it. it.f.2.n) c.with_min_len.ensures.base ∙ ap (λ f. f.2.n) c.map-chain.ensures.f in
    let h = c.in-Ok.ensures in
    let told = rw c.in-Ok-made.is at h.2 in
    let chain = h.1 in
    let whole : runs - 0 ≡ runs = omega arith in
    let places : chain.0 ≡ range_with_len 0 runs = chain.1 ∙ ((λ i. nat_range (start_is i) (end_is i)) ∙ ap (range_with_len 0) whole) in
    let each = subst (λ (z : ℕ × ℕ × List ℕ). AllZip (Gives (g.C.Counting.IsRun c.with_min_len.result.base.f.0.now) z.0 z.1) z.2 h.0) (λ i. (first_is i, count_is i, places i)) chain.2 in
    let zip : AllZip (Gives (g.C.Counting.IsRun counting) first count) (range_with_len 0 runs) h.0 =
    subst (λ m. AllZip (Gives (g.C.Counting.IsRun m) first count) (range_with_len 0 runs) h.0) counting_is each in
    let so_many = c.div_ceil-runs.ensures in
    subst (AreRuns (g.C.Counting.IsRun counting) first count) (sym told.2) (all_runs (g.C.Counting.IsRun counting) first count runs h.0 told.0 so_many zip told.1)
