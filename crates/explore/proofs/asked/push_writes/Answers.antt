use Rattle.std.proofs.Common.{◌∙◌, arith}
use Rattle.explore.proofs.AskedSteps.{write_keeps, write_next}
use Rattle.explore.proofs.asked.push_writes.Goals as goal

pub loop-i-preserved : goal.loop-i-preserved
loop-i-preserved c =
    let m = c.loop-i.narrow.memory in
    let new = c.add_write.new.self.memory in
    let word = c.write-word.result.0 in
    let value = c.write-word.result.1 in
    let made = c.in_ok-add_write.ensures.memory in
    let from = c.loop-i.invariant.from in record {
      pending = write_next m new word value c.args.line c.args.from c.loop-i.i c.args.narrow.now.memory.pending c.args.pending.now.memory.pending c.loop-i.invariant.pending from c.write-word.ensures made;
      persisted = write_keeps m new word value made ∙ c.loop-i.invariant.persisted;
      shape = c.in_ok-add_write.ensures.shape ∙ c.loop-i.invariant.shape;
      from = omega (arith, from);
    }
