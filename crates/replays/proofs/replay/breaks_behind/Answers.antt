use Rattle.std.proofs.Common.{rules, ◌∙◌, ap, subst, List, Ok, Result}
use Rattle.lines_layout.specs.Shapes.{IsShape}
use Rattle.isa.specs.Objects.{IsObject, shape}
use Rattle.machine.specs.declared.step.Step.{Step}
use Rattle.explore.specs.declared.fault.ExploreFault.{ExploreFault}
use Rattle.explore.specs.declared.verdict.Verdict.{Verdict}
use Rattle.explore.specs.Questions.{IsVerdict}
use Rattle.replays.proofs.Followings.{broken_behind, sound_by}
use Rattle.replays.proofs.replay.breaks_behind.Goals as goal

pub returns-in-Ok-Fails : goal.returns-in-Ok-Fails
returns-in-Ok-Fails c = λ _.
    let question = c.args.question.now in
    let object = c.args.object.now in
    let here = c.args.machine.now in
    let failure = c.in-Ok-Fails.field-0-0 in
    let is_shape : IsShape (shape object) = search rules in
    let is_object : IsObject object = search rules in
    let sound = sound_by question.crashes object here (λ (steps : List Step). c.loaded_machines_are_sound.ensures.sound object steps is_shape is_object) c.requires in
    let fails = subst (λ (told : Result Verdict ExploreFault). IsVerdict question here 64 told)
    (c.in-Ok-Fails.is ∙ ap (λ (verdict : Verdict). Ok verdict) c.in-Ok-Fails.field-0-is) (c.check.ensures sound) in
    broken_behind failure.asked question object here failure.run failure.values c.requires fails
