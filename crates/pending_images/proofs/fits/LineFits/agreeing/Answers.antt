use Rattle.std.proofs.Common.{rules, ◌≡◌, ◌%◌, ◌++◌, [], ◌∷◌, arith, slice_set}
use Rattle.std.proofs.lemmas.List.Sums.{length-filter}
use Rattle.lines_layout.specs.Lines.{line_words}
use Rattle.persist_buffer.specs.Memories.{is_write_on}
use Rattle.persist_buffer.specs.Listings.{writes_on}
use Rattle.pending_images.specs.Agreements.{agree, agree_of, line_now}
use Rattle.pending_images.proofs.AgreeingNumbers.{agree_pushed, agree_whole}
use Rattle.pending_images.proofs.fits.LineFits.agreeing.Goals as goal

pub loop-i-preserved : goal.loop-i-preserved
loop-i-preserved c =
    let ws = writes_on c.args.line c.args.pending.now.memory.pending in
    let set : c.write.new.self ≡ slice_set c.loop-i.values (c.write-word.result.0 % line_words) c.write-word.result.1 = rw c.number.ensures.value at c.write.ensures in
    let pushed : c.push-in-loop-i.new.self.items ≡ c.loop-i.fits.items ++ agree c.args.line c.args.given.now c.write.new.self ∷ [] = search rules in
    agree_pushed c.loop-i.i c.args.line c.args.given.now c.loop-i.values c.write.new.self ws c.write-word.result.0 c.write-word.result.1 c.loop-i.fits.items c.push-in-loop-i.new.self.items
    (agree_of c.args.line c.args.given.now (line_now c.args.pending.now.memory.persisted c.args.line) c.args.pending.now.memory.pending) c.write-word.ensures set c.loop-i.invariant pushed

pub returns : goal.returns
returns c =
    let es = c.args.pending.now.memory.pending in
    let size = length-filter (is_write_on c.args.line) es in
    let end = c.writes-i-end.ensures.value in
    agree_whole c.loop-i.i c.args.line c.args.given.now c.loop-i.values (writes_on c.args.line es) c.loop-i.fits.items (agree_of c.args.line c.args.given.now (line_now c.args.pending.now.memory.persisted c.args.line) es)
    (omega (arith, size, end, c.loop-i-test.false)) c.loop-i.invariant
