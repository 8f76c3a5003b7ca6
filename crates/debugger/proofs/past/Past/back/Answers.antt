use Rattle.std.proofs.Common.{Bor, ◌≡◌, ◌∙◌, ℕ, ◌-◌, arith, ap, sym, subst, refl, List, [], take, drop, length}
use Rattle.std.specs.Prelude.{Option, option_copied}
use Rattle.machine.specs.State.{State}
use Rattle.machine.specs.declared.step.Step.{Step}
use Rattle.machine.specs.Steps.{End, run_of}
use Rattle.debugger.specs.Pasts.{Past, Leads, undone}
use Rattle.debugger.specs.Checkpoints.{IsReachedBy, IsSpare, begun_at}
use Rattle.debugger.specs.declared.checkpoint.Checkpoint.{Checkpoint}
use Rattle.debugger.proofs.HistoriesLeadToStates.{led_front}
use Rattle.debugger.proofs.Replays.{siblings, replayed, replayed_all, begun_all, led_to, past_is}
use Rattle.debugger.proofs.KeptCheckpoints.{of_Some}
use Rattle.debugger.proofs.past.Past.back.Goals.{in-Some, in-None}
use Rattle.debugger.proofs.past.Past.back.Goals as goal

pub restore-requires : goal.restore-requires
restore-requires c =
    let r = subst (λ (p : Past). IsReachedBy p c.args.count c.in-Some.checkpoint.now) (sym c.self.view_is) (of_Some (λ (x : Checkpoint). IsReachedBy c.args.self.now c.args.count x) _ c.in-Some.checkpoint c.in-Some.is c.requires.checkpoint) in
    siblings c.self.inside.history.items (take c.in-Some.checkpoint.now.length c.self.inside.history.items) c.self.inside.opening _ _ (led_to _ _ _ c.self.invariant.0) r.0.state

pub restore-requires-in-None : goal.restore-requires-in-None
restore-requires-in-None c = siblings c.self.inside.history.items [] c.self.inside.opening _ _ (led_to _ _ _ c.self.invariant.0) refl

ends : (c : goal.After-truncate) → (c.match-checkpoint.self-inside.opening ≡ c.self.inside.opening) × (c.match-checkpoint.self-inside.history.items ≡ c.self.inside.history.items) × (c.match-checkpoint.self-inside.machine ≡ (run_of (take (c.len.result - c.args.count) c.self.inside.history.items) c.self.inside.opening).state) × (c.len.result ≡ length c.self.inside.history.items) × (c.match-checkpoint.self-inside.spare ≡ c.self.inside.spare)
ends c =
    elim c.match-checkpoint.branch [
      | in-Some w ↦
          let r = subst (λ (p : Past). IsReachedBy p c.args.count w.in-Some.checkpoint.now) (sym c.self.view_is) (of_Some (λ (x : Checkpoint). IsReachedBy c.args.self.now c.args.count x) _ w.in-Some.checkpoint w.in-Some.is c.requires.checkpoint) in
          let k = w.in-Some.checkpoint.now.length in
          let long : c.len.result ≡ length c.self.inside.history.items = c.len.ensures ∙ sym w.deref.ensures.len ∙ ap (λ (h : List Step). length h) w.deref.ensures.value in (
            ap (λ p. p.opening) w.self-inside-is,
            ap (λ p. p.history.items) w.self-inside-is,
            ap (λ p. p.machine) w.self-inside-is
                ∙ sym (ap (λ (x : End). x.state) w.run.ensures.run)
                ∙ ap (λ (h : List Step). (run_of (take (c.len.result - c.args.count - k) (drop k h)) w.restore.new.self).state) w.deref.ensures.value
                ∙ ap (λ (m : State). (run_of (take (c.len.result - c.args.count - k) (drop k c.self.inside.history.items)) m).state) w.restore.ensures
                ∙ replayed c.self.inside.history.items c.self.inside.opening _ _ k (c.len.result - c.args.count) c.self.invariant.0 (rw long r.1) r.0.state,
            long,
            ap (λ p. p.spare) w.self-inside-is,
          )
      | in-None w ↦ (
        ap (λ p. p.opening) w.self-inside-is,
        ap (λ p. p.history.items) w.self-inside-is,
        ap (λ p. p.machine) w.self-inside-is
            ∙ sym (ap (λ (x : End). x.state) w.run-in-None.ensures.run)
            ∙ ap (λ (h : List Step). (run_of (take (c.len.result - c.args.count) h) w.restore-in-None.new.self).state) w.deref-in-None.ensures.value
            ∙ ap (λ (m : State). (run_of (take (c.len.result - c.args.count) c.self.inside.history.items) m).state) w.restore-in-None.ensures,
        c.len.ensures ∙ sym w.deref-in-None.ensures.len ∙ ap (λ (h : List Step). length h) w.deref-in-None.ensures.value,
        ap (λ p. p.spare) w.self-inside-is,
      )
    ]

pub invariant_of-self : goal.invariant_of-self
invariant_of-self c =
    let e = ends c in (
      subst (λ (o : State). Leads o c.truncate.new.self.items c.match-checkpoint.self-inside.machine) (sym e.0)
          (led_front _ _ _ c.self.inside.history.items _ (c.len.result - c.args.count) c.self.invariant.0 (c.truncate.ensures.items ∙ ap (λ (h : List Step). take (c.len.result - c.args.count) h) e.1) e.2),
      subst (λ (o : State). IsSpare o c.match-checkpoint.self-inside.spare) (sym e.0) (subst (λ (q : Option State). IsSpare c.self.inside.opening q) (sym e.4) c.self.invariant.1),
    )

pub returns-clause-undone : goal.returns-clause-undone
returns-clause-undone c =
    let e = ends c in
    let long = e.3 in
    let kept : c.truncate.new.self.items ≡ take (length c.self.inside.history.items - c.args.count) c.self.inside.history.items = c.truncate.ensures.items ∙ ap (λ (h : List Step). take (c.len.result - c.args.count) h) e.1 ∙ ap (λ (n : ℕ). take (n - c.args.count) c.self.inside.history.items) long in
    past_is e.0 kept (e.2 ∙ ap (λ (n : ℕ). (run_of (take (n - c.args.count) c.self.inside.history.items) c.self.inside.opening).state) long)
    ∙ ap (λ (p : Past). undone p c.args.count) c.self.view_is

pub returns-clause-replayed : goal.returns-clause-replayed
returns-clause-replayed c =
    let h = c.self.inside.history.items in
    let same : length h ≡ length c.args.self.now.history = ap (λ (p : Past). length p.history) c.self.view_is in
    elim c.match-checkpoint.branch [
      | in-Some w ↦
          let r = subst (λ (p : Past). IsReachedBy p c.args.count w.in-Some.checkpoint.now) (sym c.self.view_is) (of_Some (λ (x : Checkpoint). IsReachedBy c.args.self.now c.args.count x) _ w.in-Some.checkpoint w.in-Some.is c.requires.checkpoint) in
          let k = w.in-Some.checkpoint.now.length in
          let long : c.len.result ≡ length h = c.len.ensures ∙ sym w.deref.ensures.len ∙ ap (λ (xs : List Step). length xs) w.deref.ensures.value in
          let begun : begun_at (option_copied c.args.checkpoint) ≡ k = ap (λ (q : Option (Bor Checkpoint)). begun_at (option_copied q)) w.in-Some.is in
          let made : c.match-checkpoint.replayed.0 ≡ c.len.result - c.args.count - k =
          ap (λ p. p.0) w.replayed-is
          ∙ sym (ap (λ (x : End). x.accepted) w.run.ensures.run)
          ∙ ap (λ (xs : List Step). (run_of (take (c.len.result - c.args.count - k) (drop k xs)) w.restore.new.self).accepted) w.deref.ensures.value
          ∙ ap (λ (m : State). (run_of (take (c.len.result - c.args.count - k) (drop k h)) m).accepted) w.restore.ensures
          ∙ replayed_all h c.self.inside.opening _ _ k (c.len.result - c.args.count) c.self.invariant.0 (rw long r.1) r.0.state (omega (arith, long)) in
          made ∙ ap (λ (n : ℕ). n - c.args.count - k) (long ∙ same) ∙ ap (λ (n : ℕ). length c.args.self.now.history - c.args.count - n) (sym begun)
      | in-None w ↦
          let long : c.len.result ≡ length h = c.len.ensures ∙ sym w.deref-in-None.ensures.len ∙ ap (λ (xs : List Step). length xs) w.deref-in-None.ensures.value in
          let begun : begun_at (option_copied c.args.checkpoint) ≡ 0 = ap (λ (q : Option (Bor Checkpoint)). begun_at (option_copied q)) w.in-None.is in
          let made : c.match-checkpoint.replayed.0 ≡ c.len.result - c.args.count =
          ap (λ p. p.0) w.replayed-is
          ∙ sym (ap (λ (x : End). x.accepted) w.run-in-None.ensures.run)
          ∙ ap (λ (xs : List Step). (run_of (take (c.len.result - c.args.count) xs) w.restore-in-None.new.self).accepted) w.deref-in-None.ensures.value
          ∙ ap (λ (m : State). (run_of (take (c.len.result - c.args.count) h) m).accepted) w.restore-in-None.ensures
          ∙ begun_all h c.self.inside.opening _ (c.len.result - c.args.count) c.self.invariant.0 (omega (arith, long)) in
          omega (arith, made, long, same, begun)
    ]
