use Rattle.layer_tests.proofs.FullMemoriesAreFull.{reads_zero}
use Rattle.layer_tests.proofs.full_storage.FullStorageStorage.coherent.Goals as goal

pub returns : goal.returns
returns c = reads_zero c.args._word
