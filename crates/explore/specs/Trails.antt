-- Machines that are kept from along a path. No rule, and in no public clause.
use Rattle.std.specs.Prelude.{◌≡◌, ℕ, zero, suc, ◌*◌, ◌≤◌, ◌<◌, None, List, length, slice_index_or, take}
use Rattle.std.specs.List.{All}
use Rattle.machine.specs.declared.step.Step.{Step}
use Rattle.machine.specs.Programs.{AreSiblings}
use Rattle.machine.specs.State.{State}
use Rattle.machine.specs.Steps.{run_of}

-- after each so many steps a machine is kept
abbrev pub distance : ℕ
distance = 16

-- the last of so many machines that are kept; the start, where none is
abbrev pub nearest : State → List State → ℕ → State
nearest start machines zero = start
nearest start machines (suc n) = slice_index_or machines n start

-- Each of these steps is accepted, and they lead there.
pub record IsAlong (start : State) (steps : List Step) (s : State) : Type 0 where
  pub accepted : (run_of steps start).refusal ≡ None
  pub leads : (run_of steps start).state ≡ s

-- So many machines are from along a path, each so many steps behind the one before it; all have the same programs.
pub record AreAlong (start : State) (path : List Step) (machines : List State) (kept : ℕ) : Type 0 where
  pub alike : All (λ machine. AreSiblings machine start) machines
  pub within : kept ≤ length machines
  pub along : (n : ℕ) → n ≤ kept → IsAlong start (take (distance * n) path) (nearest start machines n)

-- A machine is kept behind so many others: in the place of one that is no more kept, or as one more.
pub record IsKeptBehind (old : List State) (n : ℕ) (s : State) (new : List State) : Type 0 where
  pub within : n < length new
  pub here : (other : State) → slice_index_or new n other ≡ s
  pub others : (i : ℕ) (other : State) → i < n → slice_index_or new i other ≡ slice_index_or old i other
