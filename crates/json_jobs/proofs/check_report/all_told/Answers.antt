use Rattle.std.proofs.Common.{subst}
use Rattle.causes.specs.declared.told.Told.{Told}
use Rattle.json_texts.specs.Objects.{IsJsonOf}
use Rattle.json_texts.proofs.Items.{one_more_of}
use Rattle.json_jobs.specs.RunReports.{one_told}
use Rattle.json_jobs.proofs.check_report.all_told.Goals as goal

pub loop-one-preserved : goal.loop-one-preserved
loop-one-preserved c =
    let is = subst (λ (told : Told). IsJsonOf (one_told c.args.source.now told) c.in_ok-one_told.field-0) c.one-item.is c.in_ok-one_told.ensures in
    one_more_of (one_told c.args.source.now) c.args.told.now c.loop-one.one-index c.one-item.result c.loop-one.items.items c.push.new.list.items
    c.in_ok-one_told.field-0 _ c.loop-one-test.true c.in_ok-push.ensures.ok is c.loop-one.invariant
