use Rattle.std.proofs.Common.{◌∙◌}
use Rattle.commands.proofs.OneMoreItemOfState.{words_more}
use Rattle.commands.proofs.state_text.push_line_words.Goals as goal

pub loop-place-preserved : goal.loop-place-preserved
loop-place-preserved c =
    let number = rw c.unwrap-word.ensures at c.new.ensures in
    let item = c.as_str.ensures.value ∙ c.index-names-place.is in
    words_more c.args.view.now.memory _ _ _ _ _ _ _ _ _ c.loop-place-test.true item number.1 c.in_ok-push_word.ensures c.loop-place.invariant
