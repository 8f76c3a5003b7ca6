use Rattle.std.proofs.Common.{Option, subst}
use Rattle.explore.specs.declared.verdict.Failure.{Failure}
use Rattle.explore.specs.declared.visit.Sight.{Sight}
use Rattle.explore.specs.declared.visit.Stop.{Stop}
use Rattle.explore.specs.declared.visit.Stop.TheVariants.{Fails, Untold}
use Rattle.explore.specs.Visits.{IsFailureIfMade, IsSight, IsStop}
use Rattle.explore.proofs.AskedParts.{never_kept, stops_again}
use Rattle.explore.proofs.asking.look_again.Goals as goal

pub returns-in-Some : goal.returns-in-Some
returns-in-Some c = λ part limit along.
    let told = subst (λ (found : Option Failure). IsFailureIfMade c.args.question.now c.args.start.now c.args.failure.run found) c.in-Some.is c.in_ok-first.ensures in
    told along.is_run

pub returns-in-Ends-Fails : goal.returns-in-Ends-Fails
returns-in-Ends-Fails c = λ part limit along.
    let question = c.args.question.now in
    let node = c.in_ok-node.node in
    let sight = subst (λ (x : Sight). IsSight question node.state node.path x) c.in-Ends-Fails.is c.in_ok-failure.ensures in
    let stop = subst (λ (x : Stop). IsStop question node.state node.path x) c.in-Ends-Fails.field-0-is sight in
    stops_again question c.args.start.now node.state c.args.failure.run node.path limit (Fails c.in-Ends-Fails.failure) c.in_ok-node.ensures.path c.in_ok-node.ensures.led stop along

pub returns-in-Ends-Untold : goal.returns-in-Ends-Untold
returns-in-Ends-Untold c = λ part limit along.
    let question = c.args.question.now in
    let node = c.in_ok-node.node in
    let sight = subst (λ (x : Sight). IsSight question node.state node.path x) c.in-Ends-Untold.is c.in_ok-failure.ensures in
    let stop = subst (λ (x : Stop). IsStop question node.state node.path x) c.in-Ends-Untold.field-0-is sight in
    stops_again question c.args.start.now node.state c.args.failure.run node.path limit (Untold c.in-Ends-Untold.fault) c.in_ok-node.ensures.path c.in_ok-node.ensures.led stop along

pub returns : goal.returns
returns c = λ part limit along.
    let question = c.args.question.now in
    let node = c.in_ok-node.node in
    let kept = subst (λ (x : Sight). IsSight question node.state node.path x) c.in-Go.is c.in_ok-failure.ensures in
    absurd (never_kept question c.args.start.now node.state c.args.failure.run c.in-Go.field-0.items c.in_ok-node.ensures.led kept along)
