use Rattle.std.proofs.Common.{rules, ◌≡◌, ◌<◌, ◌∙◌, true, length, sym, ap}
use Rattle.machine.specs.State.{State}
use Rattle.explore.specs.Visits.{takes_nothing}
use Rattle.explore.proofs.TriesGoOn.{goes_on}
use Rattle.explore.proofs.tries.try_one.Goals as goal

pub returns-then-len-before-clause-on : goal.returns-then-len-before-clause-on
returns-then-len-before-clause-on c = λ told.
    let s = c.args.node.now.state in
    let path = c.args.node.now.path in
    let old = c.args.found.now in
    let new = c.try_move.new.found in
    let more : length old.paths < length new.paths = search rules in
    let keeps : takes_nothing s c.args.step ≡ true = sym (c.takes_nothing-goes_on.ensures ∙ ap (λ (x : State). takes_nothing x c.args.step) c.view.ensures) ∙ told in
    goes_on c.args.locals s path c.args.step old new c.in_ok-lacks.lacks c.in_ok-lacks.ensures.tried more keeps
