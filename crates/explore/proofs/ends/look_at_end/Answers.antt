use Rattle.std.proofs.Common.{rules, ◌≡◌, ◌++◌, true, false, List, map, ap, sym, ◌∙◌}
use Rattle.machine.specs.State.{State}
use Rattle.machine.specs.declared.step.Step.{Step}
use Rattle.images.specs.Images.{image_at}
use Rattle.explore.specs.declared.verdict.Failure.{Failure}
use Rattle.explore.specs.Ends.{is_met}
use Rattle.explore.specs.Explored.{have_ended}
use Rattle.explore.specs.Falls.{step_for}
use Rattle.explore.specs.Found.{led_to}
use Rattle.explore.specs.Outcomes.{outcome_of}
use Rattle.explore.specs.Sets.{included}
use Rattle.explore.specs.Visits.{asked_at}
use Rattle.explore.proofs.Endings.{met_each, seen_false, seen_true, unmet_one}
use Rattle.explore.proofs.ends.look_at_end.Goals as goal

pub returns-then-is_met-clause-seen : goal.returns-then-is_met-clause-seen
returns-then-is_met-clause-seen c = λ sound turns.
    let s = c.args.node.now.state in
    let q = c.args.question.now in
    let r = c.args.recovered in
    let end = led_to s (map step_for s.memory.pending) in
    let ended : c.have_ended.result ≡ true = search rules in
    let done : have_ended r s ≡ true = sym (c.have_ended.ensures ∙ ap (have_ended r) c.view.ensures) ∙ ended in
    let steps = c.deref.ensures.value ∙ c.in_ok-steps.ensures ∙ ap (λ (x : State). map step_for x.memory.pending) c.view-2.ensures in
    let led : c.settle.new.spare ≡ end = c.settle.ensures.end ∙ ap (led_to s) steps in
    let noted : c.add.new.self ≡ included c.args.outcomes.now (outcome_of end) = c.in_ok-add.ensures ∙ ap (included c.args.outcomes.now) (c.in_ok-outcome_of.ensures ∙ ap outcome_of (c.view-3.ensures ∙ led)) in
    let met : is_met (asked_at r q) end ≡ true = (λ k. is_met (sym c.asked_at-cond.ensures k) (sym (c.view-4.ensures ∙ led) k)) ∙ sym c.is_met.ensures ∙ c.if-is_met.true in
    seen_true q r s c.args.node.now.path c.args.outcomes.now c.add.new.self sound turns done noted (λ condition asked. met_each (asked_at r q) end condition met asked)

pub returns-clause-seen : goal.returns-clause-seen
returns-clause-seen c = λ sound turns.
    let s = c.args.node.now.state in
    let q = c.args.question.now in
    let r = c.args.recovered in
    let end = led_to s (map step_for s.memory.pending) in
    let ended : c.have_ended.result ≡ true = search rules in
    let done : have_ended r s ≡ true = sym (c.have_ended.ensures ∙ ap (have_ended r) c.view.ensures) ∙ ended in
    let steps = c.deref.ensures.value ∙ c.in_ok-steps.ensures ∙ ap (λ (x : State). map step_for x.memory.pending) c.view-2.ensures in
    let again = c.deref-2.ensures.value ∙ c.in_ok-steps.ensures ∙ ap (λ (x : State). map step_for x.memory.pending) c.view-2.ensures in
    let led : c.settle.new.spare ≡ end = c.settle.ensures.end ∙ ap (led_to s) steps in
    let noted : c.add.new.self ≡ included c.args.outcomes.now (outcome_of end) = c.in_ok-add.ensures ∙ ap (included c.args.outcomes.now) (c.in_ok-outcome_of.ensures ∙ ap outcome_of (c.view-3.ensures ∙ led)) in
    let unmet : is_met (asked_at r q) end ≡ false = (λ k. is_met (sym c.asked_at-cond.ensures k) (sym (c.view-4.ensures ∙ led) k)) ∙ sym c.is_met.ensures ∙ c.if-is_met.false in
    let (condition, asked, fails) = unmet_one (asked_at r q) end unmet in
    let failure : Failure = record { asked = c.asked_of.result; values = c.in_ok-words_of.field-0; run = c.in_ok-then.field-0 } in
    seen_false q r s c.args.node.now.path c.args.outcomes.now c.add.new.self sound turns done noted condition failure asked fails c.asked_of.ensures
    (c.in_ok-words_of.ensures ∙ ap (λ (x : State). image_at x.shape x.memory.persisted) (c.view-5.ensures ∙ led)) (c.in_ok-then.ensures ∙ ap (λ (more : List Step). c.args.node.now.path ++ more) again)
