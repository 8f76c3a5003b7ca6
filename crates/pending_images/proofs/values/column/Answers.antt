use Rattle.std.proofs.Common.{rules, ◌≡◌, ◌++◌, [], ◌∷◌, arith}
use Rattle.std.proofs.lemmas.List.Sums.{length-filter}
use Rattle.lines_layout.specs.Lines.{line_of}
use Rattle.persist_buffer.specs.Memories.{is_write_on}
use Rattle.persist_buffer.specs.Listings.{writes_on}
use Rattle.pending_images.specs.Agreements.{column_of}
use Rattle.pending_images.proofs.AgreeingNumbers.{column_pushed, column_whole}
use Rattle.pending_images.proofs.values.column.Goals as goal

pub loop-i-preserved : goal.loop-i-preserved
loop-i-preserved c =
    let ws = writes_on (line_of c.args.word) c.args.pending.now.memory.pending in
    let has = rw c.line-line.ensures at c.write-target.ensures in
    let pushed : c.push-in-loop-i.new.self.items ≡ c.loop-i.values.items ++ c.value_next-next.result ∷ [] = search rules in
    column_pushed c.loop-i.i c.args.word c.loop-i.value c.value_next-next.result ws c.write-target.result.0 c.write-target.result.1 c.loop-i.values.items c.push-in-loop-i.new.self.items
    (column_of c.args.word c.args.pending.now.memory) has c.value_next-next.ensures c.loop-i.invariant pushed

pub returns : goal.returns
returns c =
    let es = c.args.pending.now.memory.pending in
    let size = length-filter (is_write_on (line_of c.args.word)) es in
    let end = rw c.line-line.ensures at c.writes-i-end.ensures.value in
    column_whole c.loop-i.i c.args.word c.loop-i.value (writes_on (line_of c.args.word) es) c.loop-i.values.items (column_of c.args.word c.args.pending.now.memory)
    (omega (arith, size, end, c.loop-i-test.false)) c.loop-i.invariant
