use Rattle.std.proofs.Common.{rules, ◌≡◌, ◌%◌, ◌++◌, [], ◌∷◌, arith, nat_eq, slice_set}
use Rattle.std.specs.Cmp.Lexicographic.{pointwise}
use Rattle.std.proofs.lemmas.List.Sums.{length-filter}
use Rattle.lines_layout.specs.Lines.{line_words}
use Rattle.persist_buffer.specs.Memories.{is_write_on}
use Rattle.persist_buffer.specs.Listings.{writes_on}
use Rattle.pending_images.specs.LeastCuts.{fits_of}
use Rattle.pending_images.proofs.FindingFirstCut.{flag_pushed, flags_whole}
use Rattle.pending_images.proofs.fits.LineFits.new.Goals as goal

pub loop-i-preserved : goal.loop-i-preserved
loop-i-preserved c =
    let ws = writes_on c.args.line c.args.pending.now.memory.pending in
    let set : c.write.new.self ≡ slice_set c.loop-i.values (c.write-word.result.0 % line_words) c.write-word.result.1 = rw c.number.ensures.value at c.write.ensures in
    let pushed : c.push-in-loop-i.new.self.items ≡ c.loop-i.fits.items ++ pointwise nat_eq c.write.new.self c.args.wanted.now ∷ [] = search rules in
    flag_pushed c.loop-i.i c.args.wanted.now c.loop-i.values c.write.new.self ws c.write-word.result.0 c.write-word.result.1 c.loop-i.fits.items c.push-in-loop-i.new.self.items
    (fits_of c.args.line c.args.wanted.now c.args.now.now c.args.pending.now.memory.pending) c.write-word.ensures set c.loop-i.invariant pushed

pub returns : goal.returns
returns c =
    let es = c.args.pending.now.memory.pending in
    let size = length-filter (is_write_on c.args.line) es in
    let end = c.writes-i-end.ensures.value in
    flags_whole c.loop-i.i c.args.wanted.now c.loop-i.values (writes_on c.args.line es) c.loop-i.fits.items (fits_of c.args.line c.args.wanted.now c.args.now.now es)
    (omega (arith, size, end, c.loop-i-test.false)) c.loop-i.invariant
