use Rattle.std.proofs.Common.{arith}
use Rattle.order_table.proofs.DecodedOperations.{empty_masks, none_in_use}
use Rattle.order_table.proofs.masks.Masks.new.Goals as goal

pub invariant_of-result : goal.invariant_of-result
invariant_of-result c = (empty_masks, omega arith, none_in_use)
