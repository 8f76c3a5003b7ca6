use Rattle.std.proofs.Common.{◌≡◌, ℕ, ◌++◌, drop}
use Rattle.std.specs.List.{enumerate_from, flat_map}
use Rattle.isa.specs.declared.instr.Instr.{Instr}
use Rattle.candidates.specs.Candidates.{candidates_at, candidates_in}
use Rattle.candidates.proofs.listed.push_candidates.Given as goal

abbrev pub invariant-loop-place : goal.invariant-loop-place
invariant-loop-place l =
    l.candidates.items
    ++ flat_map (λ (e : ℕ × Instr). candidates_at (record { processor = l.processor; recovering = l.recovering; place = e.0 }) e.1)
    (enumerate_from l.place (drop l.place l.program))
    ≡ l.initial.candidates.items ++ candidates_in l.processor l.recovering l.program
