use Rattle.std.proofs.Common.{◌≡◌, ◌∙◌, None, List, [], ◌∷◌, ◌++◌, ap, sym}
use Rattle.machine.specs.declared.step.Step.{Step}
use Rattle.machine.specs.State.{State}
use Rattle.machine.specs.Steps.{End, check_of}
use Rattle.explore.specs.Followed.{after, owns_of}
use Rattle.explore.specs.Keys.{key_of}
use Rattle.explore.proofs.OwnStepsNoted.{sibling_after, siblings_on, tried_accepted}
use Rattle.explore.proofs.moves.try_move.Goals as goal

pub returns-clause-tried : goal.returns-clause-tried
returns-clause-tried c =
    let locals = c.args.locals in
    let s = c.args.node.now.state in
    let t = c.run.new.self in
    let step = c.args.step in
    let none : check_of s step ≡ None = sym c.check.ensures ∙ c.in_default.is in
    let is : t ≡ after s step = sym (ap (λ (e : End). e.state) c.run.ensures.run) ∙ ap (λ (x : State). after x step) c.restore.ensures in
    let first = c.in_ok-push.ensures.items ∙ ap (λ (steps : List Step). steps ++ step ∷ []) c.clear.ensures.items in
    let all = c.deref.ensures.value ∙ c.in_ok-follow.ensures.steps ∙ ap (λ (steps : List Step). steps ++ owns_of locals t) first in
    tried_accepted locals s step t c.follow.new.here c.args.node.now.path c.deref.result.now c.in_ok-key.key c.args.found.now c.add_behind.new.self none is c.in_ok-follow.ensures.end all
    (c.in_ok-key.ensures ∙ (λ k. key_of (c.sets.ensures k) (c.view.ensures k))) c.in_ok-add_behind.ensures.added

pub returns-clause-siblings : goal.returns-clause-siblings
returns-clause-siblings c =
    let s = c.args.node.now.state in
    let t = c.run.new.self in
    let is : t ≡ after s c.args.step = sym (ap (λ (e : End). e.state) c.run.ensures.run) ∙ ap (λ (x : State). after x c.args.step) c.restore.ensures in
    siblings_on c.follow.new.here t s c.follow.ensures.siblings (sibling_after s t c.args.step is)
