use Rattle.std.proofs.Common.{◌≡◌, ℕ, List, [], map, take, drop, ◌++◌}
use Rattle.machine.proofs.delayed.clear_all.Given as goal

abbrev pub invariant-loop-own : goal.invariant-loop-own
invariant-loop-own l = l.delayed ≡ map (λ (own : List ℕ). []) (take l.own-index l.fn.delayed) ++ drop l.own-index l.fn.delayed
