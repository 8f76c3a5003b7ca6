use Rattle.std.proofs.Common.{List}
use Rattle.std.specs.List.{flat_map}
use Rattle.std.proofs.lemmas.Result.{on_ok_weaker}
use Rattle.debug_scripts.specs.Replies.{Told, told_by}
use Rattle.json_texts.specs.Objects.{GetsItems}
use Rattle.json_scripts.specs.DebugData.{AreJsonOf, told_items}
use Rattle.json_scripts.proofs.RepliesAsValues.{told_more}
use Rattle.json_scripts.proofs.debug_report.JsonFormVecValue.put.Goals as goal

pub returns : goal.returns
returns c =
    let lined = c.args.self.now.lined.now in
    let one : Told = told_by c.args.past.now c.args.reply.now in
    let old = c.args.page.now.items in
    let new = c.push_reply.new.items.items in
    on_ok_weaker c.push_reply.result (λ (gets : GetsItems old new (told_items lined one)) (told : List Told) (so_far : AreJsonOf (flat_map (told_items lined) told) old).
    told_more lined told one old new gets so_far) c.push_reply.ensures
