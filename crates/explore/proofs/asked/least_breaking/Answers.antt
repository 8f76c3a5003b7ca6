use Rattle.std.proofs.Common.{◌≡◌, ◌∙◌, ◌+◌, ℕ, List, ap, sym, subst, arith, not, Err}
use Rattle.std.proofs.lemmas.Result.{err_from_is_err_and}
use Rattle.pending_images.specs.declared.fault.ImageFault.TheVariants.{TooMany}
use Rattle.pending_images.specs.Candidates.{all_lines, markers}
use Rattle.persist_buffer.specs.State.{Pending}
use Rattle.expect.specs.Truth.{holds_on}
use Rattle.explore.specs.Asked.{asked_by}
use Rattle.explore.specs.Narrow.{IsLeast, IsLeftBelow}
use Rattle.explore.proofs.AskedSteps.{one_is_many, sum_is_all, sum_is_many, sum_next}
use Rattle.explore.proofs.NarrowLeast.{least_first, least_next, least_of_state}
use Rattle.explore.proofs.asked.least_breaking.Goals as goal

pub returns-in_err-sum-clause-many : goal.returns-in_err-sum-clause-many
returns-in_err-sum-clause-many c = λ told.
    let (y, is, from) = err_from_is_err_and c.from_residual.result c.from_residual.ensures.1 in
    let same : c.in_err-sum.field-0.0 ≡ TooMany = cc in
    one_is_many (asked_by c.args.cond.now) 0 c.args.view.now.memory.pending (omega arith) (c.in_err-sum.ensures.many (ap (λ e. Err e) same))

pub loop-k-init : goal.loop-k-init
loop-k-init c = record {
  sum = (let e = c.in_ok-sum.ensures.count in omega (arith, e));
  few = c.in_ok-sum.ensures.few;
  least = least_first c.args.view.now (λ (image : List ℕ). not (holds_on c.args.view.now c.args.cond.now image)) c.in_ok-sum.least c.in_ok-sum.ensures.least;
}

pub returns-in_err-candidates-clause-many : goal.returns-in_err-candidates-clause-many
returns-in_err-candidates-clause-many c = λ told.
    let (y, is, from) = err_from_is_err_and c.from_residual-in_err-candidates.result c.from_residual-in_err-candidates.ensures.1 in
    let same : c.in_err-candidates.field-0.0 ≡ TooMany = cc in
    let last : c.markers-last.result ≡ markers c.args.view.now.memory.pending = c.markers-last.ensures ∙ ap (λ (p : Pending). markers p.memory.pending) c.pending-pending.ensures in
    let below = c.loop-k-test.true in
    one_is_many (asked_by c.args.cond.now) (c.loop-k.k + 1) c.args.view.now.memory.pending (omega (arith, last, below)) (c.in_err-candidates.ensures.many (ap (λ e. Err e) same))

pub returns-then-sum-gt-MOST_CANDIDATES-clause-many : goal.returns-then-sum-gt-MOST_CANDIDATES-clause-many
returns-then-sum-gt-MOST_CANDIDATES-clause-many c = λ told.
    let asked = asked_by c.args.cond.now in
    let es = c.args.view.now.memory.pending in
    let last : c.markers-last.result ≡ markers es = c.markers-last.ensures ∙ ap (λ (p : Pending). markers p.memory.pending) c.pending-pending.ensures in
    let below = c.loop-k-test.true in
    sum_is_many asked (c.loop-k.k + 1) (c.loop-k.sum + c.in_ok-candidates.candidates) es (omega (arith, last, below))
    (sum_next asked all_lines c.loop-k.k c.loop-k.sum c.in_ok-candidates.candidates es c.loop-k.invariant.sum c.in_ok-candidates.ensures.count) c.if-sum-gt-MOST_CANDIDATES.true

pub loop-k-preserved : goal.loop-k-preserved
loop-k-preserved c =
    let s = c.args.view.now in
    let test : List ℕ → _ = λ image. not (holds_on s c.args.cond.now image) in
    let few = c.if-sum-gt-MOST_CANDIDATES.false in record {
      sum = sum_next (asked_by c.args.cond.now) all_lines c.loop-k.k c.loop-k.sum c.in_ok-candidates.candidates s.memory.pending c.loop-k.invariant.sum c.in_ok-candidates.ensures.count;
      few = omega (arith, few);
      least = subst (IsLeast (IsLeftBelow s (c.loop-k.k + 1 + 1)) test) (sym c.lesser-least.ensures) (least_next s test (c.loop-k.k + 1) c.loop-k.least c.in_ok-candidates.image c.loop-k.invariant.least c.in_ok-candidates.ensures.least);
    }

pub returns-clause-least : goal.returns-clause-least
returns-clause-least c =
    let s = c.args.view.now in
    let test : List ℕ → _ = λ image. not (holds_on s c.args.cond.now image) in
    let last : c.markers-last.result ≡ markers s.memory.pending = c.markers-last.ensures ∙ ap (λ (p : Pending). markers p.memory.pending) c.pending-pending.ensures in
    let at : c.loop-k.k ≡ markers s.memory.pending = omega (arith, last, c.loop-k-test.false, c.loop-k.auto.k-end) in
    let lines = rw c.pending-pending.ensures at c.keeps_to_layouts.ensures.lines in
    least_of_state s test c.loop-k.least lines (subst (λ (n : ℕ). IsLeast (IsLeftBelow s (n + 1)) test c.loop-k.least) at c.loop-k.invariant.least)

pub returns-clause-few : goal.returns-clause-few
returns-clause-few c =
    let es = c.args.view.now.memory.pending in
    let last : c.markers-last.result ≡ markers es = c.markers-last.ensures ∙ ap (λ (p : Pending). markers p.memory.pending) c.pending-pending.ensures in
    let at : c.loop-k.k ≡ markers es = omega (arith, last, c.loop-k-test.false, c.loop-k.auto.k-end) in
    sum_is_all (asked_by c.args.cond.now) c.loop-k.k c.loop-k.sum es at c.loop-k.invariant.sum c.loop-k.invariant.few
