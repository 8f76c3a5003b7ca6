-- What a machine comes to that follows a run.
use Rattle.std.specs.Prelude.{Bool}
use Rattle.machine.specs.State.{State}
use Rattle.explore.specs.Reachable.{IsReachable}

-- From where the one state is reached, the other is.
pub record GoesOn (crashes : Bool) (s t : State) : Type 0 where
  pub reached : (start : State) → IsReachable crashes start s → IsReachable crashes start t
