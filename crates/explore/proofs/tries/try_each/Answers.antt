use Rattle.std.proofs.Common.{rules, ◌≡◌, ◌∙◌, ◌+◌, ◌<◌, Bool, None, drop, length, subst, sym}
use Rattle.std.proofs.lemmas.List.{drop_more}
use Rattle.explore.specs.Found.{tries_of}
use Rattle.explore.specs.Gathered.{runs_behind_all}
use Rattle.explore.specs.Sets.{included_all}
use Rattle.explore.specs.Visits.{GoesOnIf}
use Rattle.explore.proofs.FoundPaths.{grows_then}
use Rattle.explore.proofs.OwnStepsNoted.{runs_on, tries_on}
use Rattle.explore.proofs.TriesGoOn.{goes_or, none_is, tried_grows}
use Rattle.explore.proofs.tries.try_each.Goals as goal

pub loop-step-preserved : goal.loop-step-preserved
loop-step-preserved c =
    let locals = c.args.locals in
    let s = c.args.node.now.state in
    let path = c.args.node.now.path in
    let moves = c.args.moves.now in
    let i = c.loop-step.step-index in
    let within : i < length moves = search rules in
    let is = drop_more moves i _ within in
    let old = c.args.found.now in
    let mid = c.loop-step.found in
    let new = c.try_one.new.found in
    let none : c.in_ok-tried.tried.lacks ≡ None = none_is _ (sym c.is_some.ensures ∙ c.if-is_some.false) in
    let grows = tried_grows locals s path _ mid new _ c.in_ok-tried.ensures.tried in record {
      tried = tries_on locals s _ (drop i moves) (drop (i + 1) moves) is path mid new c.in_ok-tried.tried.lacks (tries_of locals s path moves old) none c.in_ok-tried.ensures.tried c.loop-step.invariant.tried;
      ran = runs_on locals s _ (drop i moves) (drop (i + 1) moves) is c.loop-step.ran c.try_one.new.ran (included_all c.args.ran.now (runs_behind_all locals s moves)) c.in_ok-tried.ensures.ran c.loop-step.invariant.ran;
      grows = grows_then old.paths mid.paths new.paths c.loop-step.invariant.grows grows;
      on = subst (λ (b : Bool). GoesOnIf b locals c.args.node.now old new) (sym c.goes_on_after-goes_on.ensures)
          (goes_or c.loop-step.goes_on c.in_ok-tried.tried.goes_on locals c.args.node.now old mid new c.loop-step.invariant.grows grows c.loop-step.invariant.on c.in_ok-tried.ensures.on);
      siblings = c.in_ok-tried.ensures.siblings;
      there = c.in_ok-tried.ensures.there;
    }
