use Rattle.std.proofs.Common.{◌≡◌, List}
use Rattle.std.proofs.lemmas.Result.{IfOk-weaker}
use Rattle.serde_json.specs.View.{view}
use Rattle.serde_json.specs.declared.value.Value.{Value}
use Rattle.json_texts.specs.Objects.{IsJsonOf, Tree}
use Rattle.json_scripts.specs.DebugData.{AreJsonOf, replies_data}
use Rattle.json_scripts.specs.Headed.{headed}
use Rattle.json_scripts.proofs.RepliesAsValues.{replies_are}
use Rattle.json_scripts.proofs.debug_report.replies_value.Goals as goal

pub returns : goal.returns
returns c =
    let items = c.args.items.items in
    let replies = c.from-replies.result in
    IfOk-weaker c.headed_value.result (λ (value : Value). view value ≡ headed (view replies))
    (λ (value : Value). (trees : List Tree) → AreJsonOf trees items → IsJsonOf (replies_data trees) value)
    (λ value is trees are. replies_are trees items replies value c.from-replies.ensures is are) c.headed_value.ensures
