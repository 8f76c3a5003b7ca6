use Rattle.std.proofs.Common.{◌≡◌, ◌∙◌, List, Some, None, ap, false, length, refl, slice_get, string_bytes, sym}
use Rattle.std.proofs.lemmas.Option.{slice_get_past, slice_get_read}
use Rattle.machine.specs.declared.step.Step.{Step}
use Rattle.jobs.specs.NextSteps.{next_steps}
use Rattle.conversations.specs.Answered.{no_step_line}
use Rattle.conversations.proofs.AnswersGiven.{none_picked, picked_so}
use Rattle.conversations.proofs.answering.pick.Goals as goal

pub returns-in-Some-clause-answers : goal.returns-in-Some-clause-answers
returns-in-Some-clause-answers g c =
    let found = c.in-Some.ensures.lookup in
    let items : c.deref.result.now ≡ next_steps false c.args.session.now.past.state = c.deref.ensures.value ∙ c.in_ok-steps.ensures ∙ ap (next_steps false) c.machine.ensures in
    let is : slice_get (next_steps false c.args.session.now.past.state) c.args.number ≡ Some c.in-Some.step.now =
    ap (λ (xs : List Step). slice_get xs c.args.number) (sym items)
    ∙ slice_get_read c.deref.result.now (length c.deref.result.now) c.args.number c.in-Some.step.now refl found.3.0 found.1 in
    picked_so c.args.lined.now _ _ c.args.number (slice_get (next_steps false c.args.session.now.past.state) c.args.number) _ c.in-Some.step.now _ c.make.result is refl c.make.ensures.answers

pub returns-clause-answers : goal.returns-clause-answers
returns-clause-answers g c =
    let items : c.deref.result.now ≡ next_steps false c.args.session.now.past.state = c.deref.ensures.value ∙ c.in_ok-steps.ensures ∙ ap (next_steps false) c.machine.ensures in
    let is : slice_get (next_steps false c.args.session.now.past.state) c.args.number ≡ None =
    ap (λ (xs : List Step). slice_get xs c.args.number) (sym items) ∙ slice_get_past c.deref.result.now c.args.number c.in-None.ensures.lookup.3 in
    let written : string_bytes c.writeln.new.self ≡ no_step_line c.args.number = rw (c.in_ok-writeln-in-None.ensures.bytes, c.requires.empty) refl in
    none_picked c.args.lined.now _ c.args.number (slice_get (next_steps false c.args.session.now.past.state) c.args.number) _ is written
