use Rattle.std.proofs.Common.{ap, subst}
use Rattle.isa.specs.Objects.{Object}
use Rattle.machine.specs.Objects.{opening}
use Rattle.machine.specs.Steps.{run_of}
use Rattle.images.specs.Images.{IsListing, images_of}
use Rattle.questions.specs.Questions.{Questioned}
use Rattle.jobs.proofs.ExactReports.{all_images_on}
use Rattle.jobs.proofs.image_report.find_images.Goals as goal

pub returns-clause-exact : goal.returns-clause-exact
returns-clause-exact c = λ ok.
    let steps = c.in_ok-steps.steps.items in
    let object = ap (λ (q : Questioned). q.lined.object) c.program.view_is in
    let listed = rw c.deref.ensures.value at (c.images_told.ensures.exact ok) in
    all_images_on c.args.options.now c.args.program.now c.args.steps.now c.in_ok-question.question steps c.in_ok-question.ensures c.in_ok-steps.ensures
    (λ looked. subst (λ (o : Object). IsListing (run_of steps (opening o)).state (images_of (run_of steps (opening o)).state)) object (listed looked))
