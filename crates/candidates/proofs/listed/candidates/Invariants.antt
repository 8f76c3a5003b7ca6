use Rattle.std.proofs.Common.{◌≡◌, ℕ, ◌++◌, drop}
use Rattle.std.specs.List.{enumerate_from, flat_map}
use Rattle.isa.specs.declared.programs.Programs.{Programs}
use Rattle.candidates.specs.Candidates.{candidates_by, candidates_of}
use Rattle.candidates.proofs.listed.candidates.Given as goal

abbrev pub invariant-loop-processor : goal.invariant-loop-processor
invariant-loop-processor l =
    l.candidates.items ++ flat_map (λ (e : ℕ × Programs). candidates_by e.0 e.1) (enumerate_from l.processor (drop l.processor l.object.processors))
    ≡ candidates_of l.object
