use Rattle.std.proofs.Common.{◌≡◌, ℕ, ◌+◌}
use Rattle.hunt.specs.Runs.{AreRuns}
use Rattle.hunt.proofs.runs.add_runs.Given as goal

abbrev pub invariant-loop-run : goal.invariant-loop-run
invariant-loop-run g l =
    (first done more : ℕ) → g.C.Counting.IsAnswer l.count first done l.fn.all → AreRuns (g.C.Counting.IsRun l.count) (first + done) more l.fn.runs.items
    → (d m : ℕ) × g.C.Counting.IsAnswer l.count first d l.all × AreRuns (g.C.Counting.IsRun l.count) (first + d) m l.run-iterator.rest.items × (d + m ≡ done + more)
