use Rattle.std.proofs.Common.{rules, ◌≡◌, ◌+◌, ap, ◌∙◌}
use Rattle.persist_buffer.specs.Memories.{coherent}
use Rattle.explore.proofs.SetsAreWritten.{coded_words_next}
use Rattle.explore.proofs.sets_key.push_words.Goals as goal

pub loop-place-preserved : goal.loop-place-preserved
loop-place-preserved c =
    let memory = c.args.pending.now.memory in
    let word : c.unwrap-word.result ≡ c.args.start + c.loop-place.place = search rules in
    let value : c.value.result ≡ coherent memory (c.args.start + c.loop-place.place) = c.value.ensures ∙ ap (coherent memory) word in
    c.in_ok-push_number.ensures ∙ coded_words_next (coherent memory) c.args.bytes.now.items c.loop-place.bytes.items c.args.start c.loop-place.place c.value.result c.loop-place.invariant value
