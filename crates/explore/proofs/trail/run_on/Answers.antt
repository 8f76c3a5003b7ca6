use Rattle.std.proofs.Common.{◌≡◌, ◌*◌, ◌+◌, ◌-◌, ℕ, None, arith, ap, drop, subst, sym, take, true, ◌∙◌}
use Rattle.std.specs.Prelude.{is_some}
use Rattle.machine.specs.Steps.{End, run_of}
use Rattle.explore.specs.Trails.{IsAlong, distance}
use Rattle.explore.proofs.TrailsGoOn.{all_alike, further, kept_along, led_no_further, led_rest, none_is, ran_siblings, siblings_back}
use Rattle.explore.proofs.trail.run_on.Goals as goal

pub returns-then-is_some-clause-led : goal.returns-then-is_some-clause-led
returns-then-is_some-clause-led c =
    let from = distance * c.loop-kept.kept in
    let refused : is_some (run_of (take (from + 16 - from) (drop from c.args.path.now)) c.loop-kept.here).refusal ≡ true =
    ap (λ (e : End). is_some e.refusal) c.run-refusal.ensures.run ∙ sym c.is_some.ensures ∙ c.if-is_some.true in
    led_no_further c.args.start.now c.loop-kept.here c.run-refusal.new.self c.args.path.now from (from + 16 - from) c.loop-kept.invariant.here refused (ap (λ (e : End). e.state) c.run-refusal.ensures.run)

pub keep-requires-clause-alike : goal.keep-requires-clause-alike
keep-requires-clause-alike c =
    let with_start = ran_siblings c.args.start.now c.loop-kept.here c.run-refusal.new.self _ _ c.loop-kept.invariant.here (ap (λ (e : End). e.state) c.run-refusal.ensures.run) in
    all_alike c.args.start.now c.run-refusal.new.self c.loop-kept.machines.items (siblings_back _ _ with_start) c.loop-kept.invariant.along.alike

pub returns-in_err-keep-clause-alike : goal.returns-in_err-keep-clause-alike
returns-in_err-keep-clause-alike c =
    let with_start = ran_siblings c.args.start.now c.loop-kept.here c.run-refusal.new.self _ _ c.loop-kept.invariant.here (ap (λ (e : End). e.state) c.run-refusal.ensures.run) in
    all_alike c.run-refusal.new.self c.args.start.now c.keep.new.machines.items with_start c.keep.ensures.alike

pub loop-kept-preserved : goal.loop-kept-preserved
loop-kept-preserved c =
    let start = c.args.start.now in
    let path = c.args.path.now in
    let k = c.loop-kept.kept in
    let from = distance * k in
    let new = c.run-refusal.new.self in
    let leads = ap (λ (e : End). e.state) c.run-refusal.ensures.run in
    let with_start = ran_siblings start c.loop-kept.here new _ _ c.loop-kept.invariant.here leads in
    let accepted : (run_of (take (from + 16 - from) (drop from path)) c.loop-kept.here).refusal ≡ None =
    ap (λ (e : End). e.refusal) c.run-refusal.ensures.run ∙ none_is _ (sym c.is_some.ensures ∙ c.if-is_some.false) in
    let more : from + (from + 16 - from) ≡ distance * (k + 1) = omega arith in
    let here : IsAlong start (take (distance * (k + 1)) path) new =
    subst (λ (n : ℕ). IsAlong start (take n path) new) more (further start c.loop-kept.here new path from (from + 16 - from) c.loop-kept.invariant.here accepted leads) in
    record {
      along = kept_along start new path c.loop-kept.machines.items c.keep.new.machines.items k c.loop-kept.invariant.along
          (all_alike new start c.keep.new.machines.items with_start c.keep.ensures.alike) c.in_ok-keep.ensures.kept here;
      within = omega (arith, c.if-path-kept-ge-DISTANCE.true, c.loop-kept.invariant.within);
      here = here;
    }

pub returns-clause-led : goal.returns-clause-led
returns-clause-led c =
    led_rest c.args.start.now c.loop-kept.here c.run.new.self c.args.path.now (distance * c.loop-kept.kept) c.loop-kept.invariant.here (ap (λ (e : End). e.state) c.run.ensures.run)
