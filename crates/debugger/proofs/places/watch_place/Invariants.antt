use Rattle.std.proofs.Common.{◌≡◌, ◌==◌, ℕ, ◌<◌, get_or, false}
use Rattle.debugger.proofs.places.watch_place.Given as goal

abbrev pub invariant-loop-place : goal.invariant-loop-place
invariant-loop-place g l = (k : ℕ) (d : _) → k < l.place → ((get_or l.watchers k d).id == l.id) ≡ false
