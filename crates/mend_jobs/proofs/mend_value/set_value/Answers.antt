use Rattle.std.proofs.Common.{◌∙◌, ap}
use Rattle.image_reasons.specs.declared.repair.Repair.{Repair}
use Rattle.json_texts.specs.Objects.{json_of}
use Rattle.json_texts.proofs.Items.{one_more_of}
use Rattle.mend_jobs.specs.MendData.{told_put}
use Rattle.mend_jobs.proofs.mend_value.set_value.Goals as goal

pub loop-repair-preserved : goal.loop-repair-preserved
loop-repair-preserved c =
    let f = told_put c.args.source.now c.args.made in
    one_more_of f _ _ c.repair-item.result _ _ _ _ c.loop-repair-test.true c.in_ok-push.ensures.ok
    (c.in_ok-told_put.ensures ∙ ap (λ (one : Repair). json_of (f one)) c.repair-item.is) c.loop-repair.invariant
