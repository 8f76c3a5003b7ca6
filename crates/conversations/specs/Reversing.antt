-- Going back to where a stop would have ended a go.
use Rattle.std.specs.Prelude.{ℕ, zero, suc, Bool, if◌then◌else◌}
use Rattle.std.specs.List.{list_any}
use Rattle.images.specs.Truth.{holds_in}
use Rattle.debugger.specs.Sessions.{SessionValue, unmade}

-- whether the condition of a stop holds in the state of a session
abbrev pub is_stopped : SessionValue → Bool
is_stopped v = list_any (λ t. holds_in v.past.state t.cond) v.stops

-- a session where it is stopped, or otherwise what comes of it
abbrev pub unless_stopped : (SessionValue → SessionValue) → SessionValue → SessionValue
unless_stopped later v = if is_stopped v then v else later v

-- The last step is taken back, and then the one before it, up to a state in which the condition of a stop holds: n steps at most.
abbrev pub reversed : ℕ → SessionValue → SessionValue
reversed zero v = v
reversed (suc n) v = unless_stopped (reversed n) (unmade v 1)
