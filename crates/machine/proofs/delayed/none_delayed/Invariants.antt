use Rattle.std.proofs.Common.{◌≡◌, [], map, take}
use Rattle.machine.proofs.delayed.none_delayed.Given as goal

abbrev pub invariant-loop-cpu : goal.invariant-loop-cpu
invariant-loop-cpu l = l.delayed.items ≡ map (λ _. []) (take l._cpu-index l.cpus)
