use Rattle.std.proofs.Common.{ℕ, List, [], arith}
use Rattle.std.proofs.lemmas.List.Edits.{map_over_more}
use Rattle.machine.proofs.delayed.clear_all.Goals as goal

pub loop-own-preserved : goal.loop-own-preserved
loop-own-preserved c = rw c.clear.ensures (map_over_more (λ (own : List ℕ). []) c.args.delayed.now c.loop-own.delayed c.loop-own.own-index c.own-item.result (omega arith) c.loop-own.invariant c.own-item.is)
