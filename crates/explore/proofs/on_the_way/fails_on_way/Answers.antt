use Rattle.std.proofs.Common.{ap, subst, sym, ◌∙◌}
use Rattle.explore.specs.declared.visit.Sight.{Sight}
use Rattle.explore.specs.declared.visit.Stop.{Stop}
use Rattle.explore.specs.declared.visit.Stop.TheVariants.{Fails}
use Rattle.explore.specs.Found.{led_to}
use Rattle.explore.specs.Visits.{IsSight, IsStop}
use Rattle.explore.proofs.Beginnings.{goes_on, stops_first}
use Rattle.explore.proofs.on_the_way.fails_on_way.Goals as goal

pub loop-step-init : goal.loop-step-init
loop-step-init c =
    let none = c.in_ok-node.ensures.path ∙ c.of.ensures ∙ c.new.ensures.items in record {
      first = none;
      leads = λ accepted. ap (led_to c.args.start.now) c.in_ok-node.ensures.path ∙ sym c.in_ok-node.ensures.led;
    }

pub returns-in-Ends-Fails : goal.returns-in-Ends-Fails
returns-in-Ends-Fails c = λ is_run.
    let question = c.args.question.now in
    let node = c.loop-step.node in
    let sight = subst (λ (x : Sight). IsSight question node.state node.path x) c.in-Ends-Fails.is c.in_ok-first.ensures in
    let stop = subst (λ (x : Stop). IsStop question node.state node.path x) c.in-Ends-Fails.field-0-is sight in
    stops_first question c.args.start.now node.state c.args.run.now node.path c.loop-step.step-index (Fails c.in-Ends-Fails.first) c.loop-step.invariant.first
    (sym (c.loop-step.invariant.leads is_run.accepted)) stop is_run 0

pub loop-step-preserved : goal.loop-step-preserved
loop-step-preserved c = goes_on c.args.start.now c.loop-step.node.state c.step.new.self.state c.args.run.now c.steps-step-items.result.now c.loop-step.node.path c.step.new.self.path c.loop-step.step-index _
    c.steps-step-items.ensures c.loop-step-test.true c.loop-step.invariant c.in_ok-step.ensures.path c.in_ok-step.ensures.led
