use Rattle.std.proofs.Common.{◌≡◌, drop}
use Rattle.persist_buffer.specs.Memories.{is_write_on}
use Rattle.image_reasons.specs.Origins.{first_alone}
use Rattle.image_reasons.proofs.origins.push_oldest.Given as goal

abbrev pub invariant-loop-p : goal.invariant-loop-p
invariant-loop-p l = record {
  rest : first_alone (is_write_on l.line) (drop l.p-index l.pended) ≡ first_alone (is_write_on l.line) l.pended;
  others : l.others.items ≡ l.fn.others.items;
}
