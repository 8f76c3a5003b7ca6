use Rattle.std.proofs.Common.{◌∙◌, ap}
use Rattle.mends.specs.declared.outcome.Open.{Open}
use Rattle.json_texts.specs.Objects.{json_of}
use Rattle.json_texts.proofs.Items.{one_more_of}
use Rattle.mend_jobs.specs.MendData.{open_data}
use Rattle.mend_jobs.proofs.mend_value.opens_value.Goals as goal

pub loop-one-preserved : goal.loop-one-preserved
loop-one-preserved c =
    let f = open_data c.args.source.now c.args.made in
    one_more_of f _ _ c.one-item.result _ _ _ _ c.loop-one-test.true c.in_ok-push.ensures.ok
    (c.in_ok-open_value.ensures ∙ ap (λ (one : Open). json_of (f one)) c.one-item.is) c.loop-one.invariant
