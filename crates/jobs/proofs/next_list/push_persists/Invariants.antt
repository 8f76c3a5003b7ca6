use Rattle.std.proofs.Common.{◌≡◌, ◌++◌, map}
use Rattle.std.specs.List.{range_with_len}
use Rattle.machine.specs.declared.step.Step.TheVariants.{Persist}
use Rattle.jobs.proofs.next_list.push_persists.Given as goal

abbrev pub invariant-loop-line : goal.invariant-loop-line
invariant-loop-line l = l.steps.items ≡ l.fn.steps.items ++ map Persist (range_with_len 0 l.line)
