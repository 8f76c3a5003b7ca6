use Rattle.std.proofs.Common.{◌≡◌, ◌∙◌, ◌-◌, ℕ, List, ap, sym, subst, length, arith}
use Rattle.std.specs.Prelude.{unwrap_or, IfSome, option_copied}
use Rattle.circular_buffer.specs.Buffer.{last_item}
use Rattle.debugger.specs.Pasts.{Past, undone}
use Rattle.debugger.specs.Marks.{marks_kept}
use Rattle.debugger.specs.Checkpoints.{IsReachedBy, AreCheckpoints, begun_at, lengths, kept}
use Rattle.debugger.specs.declared.checkpoint.Checkpoint.{Checkpoint}
use Rattle.debugger.proofs.KeptCheckpoints.{all_reached, all_before, kept_lengths, last_reached, begun_last}
use Rattle.debugger.proofs.session.Session.back.Goals as goal

pub back-requires-clause-checkpoint : goal.back-requires-clause-checkpoint
back-requires-clause-checkpoint g c =
    let is : c.keep_to.new.checkpoints ≡ kept c.args.self.now.checkpoints (length c.args.self.now.past.history - c.args.count) = c.keep_to.ensures.kept ∙ ap (λ (n : ℕ). kept c.args.self.now.checkpoints (n - c.args.count)) c.len-2.ensures.value in
    let all = last_reached (IsReachedBy c.args.self.now.past c.args.count) _ c.last-checkpoint.result (c.last-checkpoint.ensures ∙ ap (λ (xs : List Checkpoint). last_item xs) is) (all_reached c.args.self.now.past c.args.count c.args.self.now.checkpoints c.args.self.now.marked) in
    subst (λ (p : Past). IfSome (option_copied c.last-checkpoint.result) (IsReachedBy p c.args.count)) (sym c.keep_to.ensures.same) all

pub invariant_of-self-2-clause-marked : goal.invariant_of-self-2-clause-marked
invariant_of-self-2-clause-marked g c =
    let is : c.keep_to.new.checkpoints ≡ kept c.args.self.now.checkpoints (length c.args.self.now.past.history - c.args.count) = c.keep_to.ensures.kept ∙ ap (λ (n : ℕ). kept c.args.self.now.checkpoints (n - c.args.count)) c.len-2.ensures.value in
    let gone = c.back.ensures.undone ∙ ap (λ (p : Past). undone p c.args.count) c.keep_to.ensures.same in
    subst (λ (p : Past). AreCheckpoints p c.keep_to.new.checkpoints) (sym gone)
    (subst (λ (cs : List Checkpoint). AreCheckpoints (undone c.args.self.now.past c.args.count) cs) (sym is)
    (all_before c.args.self.now.past c.args.count c.args.self.now.checkpoints (omega (arith, c.if-count-len.false, c.len.ensures.value)) c.args.self.now.marked))

pub returns-clause-marks : goal.returns-clause-marks
returns-clause-marks g c =
    let is : c.keep_to.new.checkpoints ≡ kept c.args.self.now.checkpoints (length c.args.self.now.past.history - c.args.count) = c.keep_to.ensures.kept ∙ ap (λ (n : ℕ). kept c.args.self.now.checkpoints (n - c.args.count)) c.len-2.ensures.value in
    ap (λ (cs : List Checkpoint). lengths cs) is ∙ kept_lengths c.args.self.now.checkpoints (length c.args.self.now.past.history - c.args.count)

pub returns-clause-replayed : goal.returns-clause-replayed
returns-clause-replayed g c =
    let is : c.keep_to.new.checkpoints ≡ kept c.args.self.now.checkpoints (length c.args.self.now.past.history - c.args.count) = c.keep_to.ensures.kept ∙ ap (λ (n : ℕ). kept c.args.self.now.checkpoints (n - c.args.count)) c.len-2.ensures.value in
    let marks : lengths c.keep_to.new.checkpoints ≡ marks_kept (lengths c.args.self.now.checkpoints) (length c.args.self.now.past.history - c.args.count) = ap (λ (cs : List Checkpoint). lengths cs) is ∙ kept_lengths c.args.self.now.checkpoints (length c.args.self.now.past.history - c.args.count) in
    c.back.ensures.replayed
    ∙ ap (λ (p : Past). length p.history - c.args.count - begun_at (option_copied c.last-checkpoint.result)) c.keep_to.ensures.same
    ∙ ap (λ (n : ℕ). length c.args.self.now.past.history - c.args.count - n) (begun_last c.keep_to.new.checkpoints c.last-checkpoint.result c.last-checkpoint.ensures)
    ∙ ap (λ (xs : List ℕ). length c.args.self.now.past.history - c.args.count - unwrap_or (last_item xs) 0) marks
