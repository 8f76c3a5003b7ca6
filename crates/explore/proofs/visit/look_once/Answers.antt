use Rattle.std.proofs.Common.{rules, ◌≡◌, true, ap, sym, ◌∙◌}
use Rattle.explore.specs.Keys.{list_key}
use Rattle.explore.proofs.LookedMemories.{left_sight, sight_once}
use Rattle.explore.proofs.visit.look_once.Goals as goal

pub returns-then-left : goal.returns-then-left
returns-then-left c =
    left_sight c.args.left c.args.once c.args.question.now c.args.node.now.state c.args.node.now.path c.args.looked.now c.look_unless.result c.look_unless.ensures

pub returns : goal.returns
returns c =
    let s = c.args.node.now.state in
    let once : c.args.once ≡ true = search rules in
    let key = c.in_ok-key.ensures ∙ ap list_key c.view-view.ensures in
    sight_once c.args.left c.args.once c.is_enough-again.result c.args.question.now s c.args.node.now.path c.in_ok-key.key c.args.looked.now c.add.new.self c.in_ok-sight.sight once key
    (λ e. sym c.has-known.ensures ∙ c.is_enough-again.ensures e) c.in_ok-add.ensures c.in_ok-sight.ensures
