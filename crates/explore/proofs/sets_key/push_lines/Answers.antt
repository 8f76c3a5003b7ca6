use Rattle.std.proofs.Common.{rules, ◌≡◌, ◌<◌, ◌++◌, List, ℕ, length, ap, ◌∙◌}
use Rattle.std.specs.Prelude.{slice_index}
use Rattle.explore.specs.Codes.{coded}
use Rattle.explore.specs.Keys.{line_key}
use Rattle.explore.proofs.SetsAreWritten.{lines_next}
use Rattle.explore.proofs.sets_key.push_lines.Goals as goal

pub loop-line-preserved : goal.loop-line-preserved
loop-line-preserved c =
    let pending = c.args.pending.now in
    let shape : c.words-counts.result.now ≡ pending.shape = search rules in
    let within : c.loop-line.line < length pending.shape = search rules in
    let count : c.from.result ≡ slice_index pending.shape c.loop-line.line = c.from.ensures ∙ ap (λ (counts : List ℕ). slice_index counts c.loop-line.line) shape in
    let number : c.unwrap-number.result ≡ c.loop-line.line = search rules in
    let one : c.push_line.new.bytes.items ≡ c.loop-line.bytes.items ++ coded (line_key pending.memory c.loop-line.line c.from.result) =
    c.in_ok-push_line.ensures ∙ ap (λ (line : ℕ). c.loop-line.bytes.items ++ coded (line_key pending.memory line c.from.result)) number in
    lines_next pending.memory pending.shape c.loop-line.bytes.items c.push_line.new.bytes.items _ c.loop-line.line c.from.result within count one c.loop-line.invariant
