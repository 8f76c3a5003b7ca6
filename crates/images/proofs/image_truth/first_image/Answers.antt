use Rattle.std.proofs.Common.{◌∙◌, ◌+◌, Bool, Some, cond, drop, find, sym, ap}
use Rattle.images.specs.Truth.{answers}
use Rattle.images.proofs.FirstOfImages.{first_from}
use Rattle.images.proofs.image_truth.first_image.Goals as goal

pub returns-then-answers : goal.returns-then-answers
returns-then-answers c =
    let test = answers c.args.wanted c.args.view.now c.args.cond.now in
    let i = c.loop-image.image-index in
    let x = c.image-item.result in
    ap (λ (b : Bool). cond b (Some x) (find test (drop (i + 1) c.args.images.now))) c.if-answers.ensures
    ∙ sym (first_from test c.args.images.now i x c.loop-image-test.true c.image-item.is) ∙ c.loop-image.invariant.rest

pub loop-image-preserved : goal.loop-image-preserved
loop-image-preserved c =
    let test = answers c.args.wanted c.args.view.now c.args.cond.now in
    let i = c.loop-image.image-index in
    let x = c.image-item.result in
    record {
      rest = ap (λ (b : Bool). cond b (Some x) (find test (drop (i + 1) c.args.images.now))) c.if-answers.ensures
          ∙ sym (first_from test c.args.images.now i x c.loop-image-test.true c.image-item.is) ∙ c.loop-image.invariant.rest;
    }
