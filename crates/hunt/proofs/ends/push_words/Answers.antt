use Rattle.std.proofs.Common.{rules, ◌≡◌, ◌+◌, ap, ◌∙◌}
use Rattle.std.specs.Prelude.{slice_index}
use Rattle.persist_buffer.specs.Memories.{coherent}
use Rattle.hunt.proofs.ObservedWords.{words_next}
use Rattle.hunt.proofs.ends.push_words.Goals as goal

pub loop-place-preserved : goal.loop-place-preserved
loop-place-preserved c =
    let m = c.args.pending.now.memory in
    let word : c.unwrap-word.result ≡ c.args.start + c.loop-place.place = search rules in
    let first : c.value.result ≡ coherent m (c.args.start + c.loop-place.place) = c.value.ensures ∙ ap (coherent m) word in
    let second : c.persisted.result ≡ slice_index m.persisted (c.args.start + c.loop-place.place) = c.persisted.ensures.value ∙ ap (slice_index m.persisted) word in
    c.in_ok-push.ensures.items
    ∙ words_next m c.args.words.now.items c.loop-place.words.items c.args.start c.loop-place.place _ c.loop-place.invariant (λ i. record { coherent = first i; persisted = second i })
