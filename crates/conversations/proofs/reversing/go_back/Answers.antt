use Rattle.std.proofs.Common.{◌≡◌, ◌-◌, ◌+◌, ◌∙◌, arith, length, map, sym}
use Rattle.debugger.specs.Stops.{armed}
use Rattle.debugger.specs.Sessions.{session, watch}
use Rattle.conversations.proofs.Reversals.{goes_on_back, none_left, one_fewer, shape_kept_back, stopped_there}
use Rattle.conversations.proofs.reversing.go_back.Goals as goal

pub returns-then-is_stopped-clause-session : goal.returns-then-is_stopped-clause-session
returns-then-is_stopped-clause-session g c =
    let before = session c.loop-left.session.past (map (λ t. armed t.id t.cond) c.loop-left.session.stops.items) (map (λ w. watch w.id ((goal.Watcher-dyn g (w.watcher.vtable, w.watcher.value)).meaning_of w.watcher.value)) c.loop-left.session.watchers.items) in
    let after = session c.step_back.new.session.past (map (λ t. armed t.id t.cond) c.step_back.new.session.stops.items) (map (λ w. watch w.id ((goal.Watcher-dyn g (w.watcher.vtable, w.watcher.value)).meaning_of w.watcher.value)) c.step_back.new.session.watchers.items) in
    sym (stopped_there before after c.loop-left.left (c.loop-left.left - 1) (omega (arith, c.loop-left-test.true)) c.step_back.ensures (sym c.is_stopped.ensures ∙ c.if-is_stopped.true))
    ∙ c.loop-left.invariant.same

pub returns-then-is_stopped-clause-fewer : goal.returns-then-is_stopped-clause-fewer
returns-then-is_stopped-clause-fewer g c =
    let before = session c.loop-left.session.past (map (λ t. armed t.id t.cond) c.loop-left.session.stops.items) (map (λ w. watch w.id ((goal.Watcher-dyn g (w.watcher.vtable, w.watcher.value)).meaning_of w.watcher.value)) c.loop-left.session.watchers.items) in
    let after = session c.step_back.new.session.past (map (λ t. armed t.id t.cond) c.step_back.new.session.stops.items) (map (λ w. watch w.id ((goal.Watcher-dyn g (w.watcher.vtable, w.watcher.value)).meaning_of w.watcher.value)) c.step_back.new.session.watchers.items) in
    let fewer : length c.step_back.new.session.past.history ≡ length c.loop-left.session.past.history - 1 = one_fewer before after c.step_back.ensures in
    omega (arith, fewer, c.loop-left.invariant.fewer)

pub returns-then-is_stopped-clause-shape : goal.returns-then-is_stopped-clause-shape
returns-then-is_stopped-clause-shape g c =
    let begun = session c.args.session.now.past (map (λ t. armed t.id t.cond) c.args.session.now.stops.items) (map (λ w. watch w.id ((goal.Watcher-dyn g (w.watcher.vtable, w.watcher.value)).meaning_of w.watcher.value)) c.args.session.now.watchers.items) in
    let before = session c.loop-left.session.past (map (λ t. armed t.id t.cond) c.loop-left.session.stops.items) (map (λ w. watch w.id ((goal.Watcher-dyn g (w.watcher.vtable, w.watcher.value)).meaning_of w.watcher.value)) c.loop-left.session.watchers.items) in
    let after = session c.step_back.new.session.past (map (λ t. armed t.id t.cond) c.step_back.new.session.stops.items) (map (λ w. watch w.id ((goal.Watcher-dyn g (w.watcher.vtable, w.watcher.value)).meaning_of w.watcher.value)) c.step_back.new.session.watchers.items) in
    shape_kept_back begun before after c.loop-left.invariant.shape c.step_back.ensures

pub loop-left-preserved : goal.loop-left-preserved
loop-left-preserved g c =
    let begun = session c.args.session.now.past (map (λ t. armed t.id t.cond) c.args.session.now.stops.items) (map (λ w. watch w.id ((goal.Watcher-dyn g (w.watcher.vtable, w.watcher.value)).meaning_of w.watcher.value)) c.args.session.now.watchers.items) in
    let before = session c.loop-left.session.past (map (λ t. armed t.id t.cond) c.loop-left.session.stops.items) (map (λ w. watch w.id ((goal.Watcher-dyn g (w.watcher.vtable, w.watcher.value)).meaning_of w.watcher.value)) c.loop-left.session.watchers.items) in
    let after = session c.step_back.new.session.past (map (λ t. armed t.id t.cond) c.step_back.new.session.stops.items) (map (λ w. watch w.id ((goal.Watcher-dyn g (w.watcher.vtable, w.watcher.value)).meaning_of w.watcher.value)) c.step_back.new.session.watchers.items) in
    let fewer : length c.step_back.new.session.past.history ≡ length c.loop-left.session.past.history - 1 = one_fewer before after c.step_back.ensures in
    let one : c.loop-left.left ≡ (c.loop-left.left - 1) + 1 = omega (arith, c.loop-left-test.true) in
    record {
      left = omega (arith, fewer, c.loop-left.invariant.left);
      same = goes_on_back before after c.loop-left.left (c.loop-left.left - 1) one c.step_back.ensures (sym c.is_stopped.ensures ∙ c.if-is_stopped.false) ∙ c.loop-left.invariant.same;
      fewer = omega (arith, fewer, c.loop-left.invariant.fewer);
      shape = shape_kept_back begun before after c.loop-left.invariant.shape c.step_back.ensures;
    }

pub returns-clause-session : goal.returns-clause-session
returns-clause-session g c = none_left c.loop-left.left _ _ c.loop-left-test.false c.loop-left.invariant.same
