use Rattle.choices.proofs.queue.has_within.Given as goal

abbrev pub invariant-loop-other : goal.invariant-loop-other
invariant-loop-other l = Unit {0}
