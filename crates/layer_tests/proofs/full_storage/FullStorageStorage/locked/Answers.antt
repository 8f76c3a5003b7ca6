use Rattle.std.proofs.Common.{arith, refl}
use Rattle.layer_tests.proofs.FullMemoriesAreFull.{has_no_room}
use Rattle.layer_tests.proofs.full_storage.FullStorageStorage.locked.Goals as goal

pub returns-clause-does : goal.returns-clause-does
returns-clause-does c = (rw (has_no_room c.args.word (omega (arith, c.number-number.ensures.value, c.number-number.ensures.bound))) refl, refl)
