use Rattle.std.proofs.Common.{◌≡◌, ◌++◌, map}
use Rattle.std.specs.List.{range_with_len}
use Rattle.machine.specs.declared.step.Step.TheVariants.{Drain}
use Rattle.jobs.proofs.next_list.push_places.Given as goal

abbrev pub invariant-loop-i : goal.invariant-loop-i
invariant-loop-i l = l.steps.items ≡ l.fn.steps.items ++ map (Drain l.p) (range_with_len 0 l.i)
