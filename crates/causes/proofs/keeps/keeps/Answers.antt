use Rattle.std.proofs.Common.{rules, ◌∙◌, ap, subst, List, Ok, Result}
use Rattle.lines_layout.specs.Shapes.{IsShape}
use Rattle.isa.specs.Objects.{IsObject, shape}
use Rattle.machine.specs.declared.step.Step.{Step}
use Rattle.explore.specs.declared.fault.ExploreFault.{ExploreFault}
use Rattle.explore.specs.declared.verdict.Verdict.{Verdict}
use Rattle.explore.specs.Questions.{IsVerdict}
use Rattle.causes.proofs.Leads.{sound_by}
use Rattle.causes.proofs.keeps.keeps.Goals as goal

pub returns-in-Ok-Holds : goal.returns-in-Ok-Holds
returns-in-Ok-Holds g c = λ _.
    let question = c.args.question.now in
    let object = c.args.object.now in
    let here = c.args.machine.now in
    let is_shape : IsShape (shape object) = search rules in
    let is_object : IsObject object = search rules in
    let sound = sound_by object here (λ (steps : List Step). c.loaded_machines_are_sound.ensures.sound object steps is_shape is_object) c.requires in (
      c.in-Ok-Holds.field-0-0,
      subst (λ (told : Result Verdict ExploreFault). IsVerdict question here c.args.limit told)
          (c.in-Ok-Holds.is ∙ ap (λ (verdict : Verdict). Ok verdict) c.in-Ok-Holds.field-0-is) (c.check.ensures sound),
    )
