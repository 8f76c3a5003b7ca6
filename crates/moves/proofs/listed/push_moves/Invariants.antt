use Rattle.std.proofs.Common.{◌≡◌, ℕ, ◌++◌, drop}
use Rattle.std.specs.List.{enumerate_from, flat_map}
use Rattle.isa.specs.declared.instr.Instr.{Instr}
use Rattle.moves.specs.Moves.{moves_at, moves_in}
use Rattle.moves.proofs.listed.push_moves.Given as goal

abbrev pub invariant-loop-place : goal.invariant-loop-place
invariant-loop-place l =
    l.moves.items
    ++ flat_map (λ (e : ℕ × Instr). moves_at l.code (record { processor = l.processor; recovering = l.recovering; place = e.0 }) e.1)
    (enumerate_from l.place (drop l.place l.code))
    ≡ l.initial.moves.items ++ moves_in l.processor l.recovering l.code
