use Rattle.std.proofs.Common.{◌≡◌, ◌∙◌, ◌++◌, ℕ, ap, sym, arith}
use Rattle.pending_images.specs.Candidates.{all_lines}
use Rattle.explore.specs.Asked.{asked_by}
use Rattle.explore.specs.Narrow.{opens}
use Rattle.explore.proofs.AskedSteps.{before_fits, low_fits, opens_more, opens_stay}
use Rattle.explore.proofs.asked.push_opens.Goals.{then-asks_line+in_ok-push_writes, else-asks_line}
use Rattle.explore.proofs.asked.push_opens.Goals as goal

pub push_writes-requires-clause-ordered : goal.push_writes-requires-clause-ordered
push_writes-requires-clause-ordered c =
    low_fits c.line_at-line.result c.args.k c.low.result c.before-then-asks_line.result c.args.pending.now.memory.pending c.low.ensures c.before-then-asks_line.ensures

pub push_writes-requires-clause-there : goal.push_writes-requires-clause-there
push_writes-requires-clause-there c = before_fits c.line_at-line.result c.args.k c.before-then-asks_line.result c.args.pending.now.memory.pending c.before-then-asks_line.ensures

pub loop-number-preserved : goal.loop-number-preserved
loop-number-preserved c =
    let asked = asked_by c.args.cond.now in
    let es = c.args.pending.now.memory.pending in
    let old = c.args.narrow.now.memory.pending in
    let now = c.loop-number.narrow.memory.pending in
    let number = c.loop-number.number in
    let is : c.line_at-line.result ≡ number = c.line_at-line.ensures in
    let answer : c.asks_line.result ≡ asked number = c.asks_line.ensures ∙ ap asked is in
    elim c.if-asks_line.branch [
      | then-asks_line+in_ok-push_writes w ↦
          let low = rw is at w.low.ensures in
          let before = rw is at w.before-then-asks_line.ensures in
          let made = rw is at w.in_ok-push_writes.ensures.pending in
          rw w.narrow-is (record {
            pending = opens_more asked number c.args.k w.low.result w.before-then-asks_line.result es old now _ (sym answer ∙ w.if-asks_line.true) low before c.loop-number.invariant.pending made;
            persisted = w.in_ok-push_writes.ensures.persisted ∙ c.loop-number.invariant.persisted;
            shape = w.in_ok-push_writes.ensures.shape ∙ c.loop-number.invariant.shape;
          })
      | else-asks_line w ↦
          rw w.narrow-is (record {
            pending = opens_stay asked number c.args.k es old now (sym answer ∙ w.if-asks_line.false) c.loop-number.invariant.pending;
            persisted = c.loop-number.invariant.persisted;
            shape = c.loop-number.invariant.shape;
          })
    ]

pub returns-clause-pending : goal.returns-clause-pending
returns-clause-pending c =
    let old = c.args.narrow.now.memory.pending in
    let es = c.args.pending.now.memory.pending in
    let at : c.loop-number.number ≡ all_lines = omega (arith, c.lines-number-end.ensures.value, c.loop-number-test.false, c.loop-number.auto.number-end) in
    c.loop-number.invariant.pending ∙ ap (λ (n : ℕ). old ++ opens (asked_by c.args.cond.now) n c.args.k es) at
