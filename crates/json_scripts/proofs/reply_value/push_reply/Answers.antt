use Rattle.std.proofs.Common.{◌≡◌, OnOk, [], ◌∷◌, ◌++◌, subst, sym}
use Rattle.std.proofs.lemmas.Result.{on_ok_weaker}
use Rattle.debug_scripts.specs.Replies.{told_by}
use Rattle.debug_scripts.specs.declared.reply.Reply.{Reply}
use Rattle.json_texts.specs.Objects.{GetsItems}
use Rattle.json_scripts.specs.DebugData.{shown_data, told_items}
use Rattle.json_scripts.proofs.RepliesAsValues.{gets_one}
use Rattle.json_scripts.proofs.reply_value.push_reply.Goals as goal

pub returns-in_ok-shown_value-in-Shown : goal.returns-in_ok-shown_value-in-Shown
returns-in_ok-shown_value-in-Shown c =
    let lined = c.args.lined.now in
    let past = c.args.past.now in
    let old = c.args.items.now.items in
    let new = c.push-in-Shown.new.list.items in
    let value = c.in_ok-shown_value-in-Shown.field-0 in
    let pushed = c.push-in-Shown.result in
    subst (λ (reply : Reply). OnOk pushed (GetsItems old new (told_items lined (told_by past reply)))) (sym c.in-Shown.is)
    (on_ok_weaker pushed (λ (one : new ≡ old ++ value ∷ []). gets_one old new value (shown_data lined past) one c.in_ok-shown_value-in-Shown.ensures) c.push-in-Shown.ensures.ok)
