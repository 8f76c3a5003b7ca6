use Rattle.fence_needs.proofs.NoMoreCanGo.{cannot_go}
use Rattle.fence_needs.proofs.laws.what_stays_cannot_go.Goals as goal

pub returns : goal.returns
returns c question limit object needs i one loadable are named = cannot_go question limit object needs are loadable named i one
