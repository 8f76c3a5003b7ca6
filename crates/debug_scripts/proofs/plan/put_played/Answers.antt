use Rattle.std.proofs.Common.{◌≡◌, refl, rules}
use Rattle.debug_scripts.specs.DebugPlans.{plan}
use Rattle.debug_scripts.proofs.OwnIds.{stops_own, watches_own}
use Rattle.debug_scripts.proofs.Plans.{put_as, put_lacks}
use Rattle.debug_scripts.proofs.plan.put_played.Goals as goal

pub play-requires-clause-stops : goal.play-requires-clause-stops
play-requires-clause-stops g c = stops_own _ _ (plan (g.F.Form.names c.args.form.now) c.args.machine c.args.script.now) (plan (g.F.Form.names c.args.form.now) c.args.machine c.args.script.now) refl c.requires.plan c.requires.stops

pub play-requires-clause-watchers : goal.play-requires-clause-watchers
play-requires-clause-watchers g c = watches_own _ _ (plan (g.F.Form.names c.args.form.now) c.args.machine c.args.script.now) (plan (g.F.Form.names c.args.form.now) c.args.machine c.args.script.now) refl c.requires.plan c.requires.watchers

pub returns-in-Ok : goal.returns-in-Ok
returns-in-Ok g c =
    let commands : c.deref.result.now ≡ c.args.script.now.commands = search rules in
    put_as (g.F.Form.Tells c.args.form.now) (plan (g.F.Form.names c.args.form.now) c.args.machine c.args.script.now) c.play.new.page _ _ _ commands c.requires.stops c.requires.watchers c.in-Ok.ensures.told

pub returns-in-Err : goal.returns-in-Err
returns-in-Err g c = rw c.lack_of.ensures (put_lacks _ _)
