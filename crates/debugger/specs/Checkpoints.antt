-- Checkpoints: states that a past went through.
use Rattle.std.specs.Prelude.{◌≡◌, ℕ, ◌<◌, ◌≤◌, ◌-◌, cond, List, [], ◌∷◌, ◌++◌, length, map, take, nat_le, Option, None, Some, IfSome}
use Rattle.std.specs.List.{All, Any, AllPairs, filter}
use Rattle.circular_buffer.specs.Buffer.{keep_last}
use Rattle.machine.specs.State.{State}
use Rattle.machine.specs.Steps.{run_of}
use Rattle.machine.specs.Programs.{AreSiblings}
use Rattle.debugger.specs.Pasts.{Past}
use Rattle.debugger.specs.Marks.{mark_room, is_due}
use Rattle.debugger.specs.declared.checkpoint.Checkpoint.{Checkpoint}

abbrev pub checkpoint : ℕ → State → Checkpoint
checkpoint n s = record { length = n; machine = s }

-- the lengths of history at which the checkpoints were made
abbrev pub lengths : List Checkpoint → List ℕ
lengths cs = map (λ c. c.length) cs

-- each was made at a greater length than those before it
abbrev pub AreRisingLengths : List Checkpoint → Type 0
AreRisingLengths cs = AllPairs (λ x y. x.length < y.length) cs

-- the state after that many steps of the history
pub record IsCheckpoint (p : Past) (c : Checkpoint) : Type 0 where
  pub within : c.length ≤ length p.history
  pub state : c.machine ≡ (run_of (take c.length p.history) p.opening).state

-- the checkpoints of a past
abbrev pub AreCheckpoints : Past → List Checkpoint → Type 0
AreCheckpoints p cs = All (IsCheckpoint p) cs

-- a checkpoint from which a past can go back before its last n steps
abbrev pub IsReachedBy : Past → ℕ → Checkpoint → Type 0
IsReachedBy p n c = IsCheckpoint p c × (c.length ≤ length p.history - n)

-- the length of history from which a past runs again: that of the checkpoint, or 0 where there is none
abbrev pub begun_at : Option Checkpoint → ℕ
begun_at None = 0
begun_at (Some c) = c.length

-- how many steps a past replays that goes back before its last n steps from there
abbrev pub replayed_from : Past → ℕ → Option Checkpoint → ℕ
replayed_from p n from = length p.history - n - begun_at from

-- what checkpoints that give way leave behind: nothing, or the machine of one of them
abbrev pub IsGivenUp : List Checkpoint → Option State → Type 0
IsGivenUp cs given = IfSome given (λ s. Any (λ c. c.machine ≡ s) cs)

-- a machine that a copy of the state can be made in, if there is one
abbrev pub IsSpare : State → Option State → Type 0
IsSpare s spare = IfSome spare (λ m. AreSiblings m s)

-- with one more where it is due
abbrev pub with_checkpoint : List Checkpoint → ℕ → State → List Checkpoint
with_checkpoint cs n s = cond (is_due (lengths cs) n) (keep_last mark_room (cs ++ checkpoint n s ∷ [])) cs

-- those not beyond an aim
abbrev pub kept : List Checkpoint → ℕ → List Checkpoint
kept cs aim = filter (λ c. nat_le c.length aim) cs
