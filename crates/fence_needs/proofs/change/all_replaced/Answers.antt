use Rattle.fence_needs.specs.Changes.{replaced_in}
use Rattle.fence_needs.proofs.ChangesAtPlaces.{changed_more}
use Rattle.fence_needs.proofs.change.all_replaced.Goals as goal

pub loop-processor-preserved : goal.loop-processor-preserved
loop-processor-preserved c =
    let site = c.args.site in
    let at = c.loop-processor.processor in
    let change = replaced_in site.recovering site.place c.args.instr.now in
    let more = changed_more site.processor change c.args.processors.now at c.index-processors-processor.result c.loop-processor-test.true in
    let made = c.in_ok-made.ensures in
    let pushed = c.in_ok-push.ensures.items in
    cc
