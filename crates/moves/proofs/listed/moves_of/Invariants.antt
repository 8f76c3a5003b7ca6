use Rattle.std.proofs.Common.{◌≡◌, ℕ, ◌++◌, drop}
use Rattle.std.specs.List.{enumerate_from, flat_map}
use Rattle.isa.specs.declared.programs.Programs.{Programs}
use Rattle.moves.specs.Moves.{moves_by, moves_of}
use Rattle.moves.proofs.listed.moves_of.Given as goal

abbrev pub invariant-loop-processor : goal.invariant-loop-processor
invariant-loop-processor l =
    l.moves.items ++ flat_map (λ (e : ℕ × Programs). moves_by e.0 e.1) (enumerate_from l.processor (drop l.processor l.object.processors)) ≡ moves_of l.object
