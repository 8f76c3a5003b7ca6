use Rattle.explore.proofs.SetsTell.{keys_tell}
use Rattle.explore.proofs.laws.keys_hide_no_state.Goals as goal

pub returns : goal.returns
returns c = keys_tell
