use Rattle.std.proofs.Common.{◌≡◌, ◌++◌, map}
use Rattle.std.specs.List.{range_with_len}
use Rattle.machine.specs.declared.step.Step.TheVariants.{Exec}
use Rattle.jobs.proofs.next_list.push_execs.Given as goal

abbrev pub invariant-loop-p : goal.invariant-loop-p
invariant-loop-p l = l.steps.items ≡ l.fn.steps.items ++ map Exec (range_with_len 0 l.p)
