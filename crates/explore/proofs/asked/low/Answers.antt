use Rattle.std.proofs.Common.{ℕ, ◌≡◌, ◌≢◌, eq-eqb, true≢false, ◌+◌, ◌-◌, ◌<◌, refl, sym, ap, ◌∙◌, arith}
use Rattle.pending_images.specs.Candidates.{low}
use Rattle.explore.proofs.AskedSteps.{low_here, low_stays}
use Rattle.explore.proofs.asked.low.Goals as goal

pub loop-j-preserved : goal.loop-j-preserved
loop-j-preserved c =
    let es = c.args.pending.now.memory.pending in
    let k = c.args.k in
    let j = c.loop-j.j in
    let less : j < k = omega (arith, c.loop-j-test.true) in
    let differ : c.marker.result ≢ c.args.line = λ same. true≢false (sym (eq-eqb c.marker.result c.args.line same) ∙ sym c.eq.ensures ∙ c.if-eq.false) in
    let last : low c.args.line (k - 1 - j) es ≡ low c.args.line (k - 1 - j + 1) es = low_stays c.args.line (k - 1 - j) c.marker.result (low c.args.line (k - 1 - j) es) es c.marker.ensures differ refl in
    let now : k - (j + 1) ≡ k - 1 - j = omega arith in
    let was : k - j ≡ k - 1 - j + 1 = omega (arith, less) in
    ap (λ (n : ℕ). low c.args.line n es) now ∙ last ∙ ap (λ (n : ℕ). low c.args.line n es) (sym was) ∙ c.loop-j.invariant
