use Rattle.fence_needs.proofs.NoMoreCanGo.{no_more}
use Rattle.fence_needs.proofs.laws.no_more_can_go_than_is_left_out.Goals as goal

pub returns : goal.returns
returns c question limit object needs loadable are = no_more question limit object needs are loadable
