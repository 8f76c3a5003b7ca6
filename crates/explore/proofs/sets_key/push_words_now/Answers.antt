use Rattle.std.proofs.Common.{rules, ◌≡◌, ◌<◌, List, ℕ, length, ap, ◌∙◌}
use Rattle.std.specs.Prelude.{slice_index}
use Rattle.persist_buffer.specs.Memories.{coherent}
use Rattle.explore.proofs.SetsAreWritten.{words_line_next}
use Rattle.explore.proofs.sets_key.push_words_now.Goals as goal

pub loop-line-preserved : goal.loop-line-preserved
loop-line-preserved c =
    let pending = c.args.pending.now in
    let shape : c.words-counts.result.now ≡ pending.shape = search rules in
    let within : c.loop-line.line < length pending.shape = search rules in
    let count : c.from.result ≡ slice_index pending.shape c.loop-line.line = c.from.ensures ∙ ap (λ (counts : List ℕ). slice_index counts c.loop-line.line) shape in
    words_line_next (coherent pending.memory) pending.shape c.loop-line.bytes.items c.push_words.new.bytes.items _ c.loop-line.line c.from.result within count c.in_ok-push_words.ensures c.loop-line.invariant
