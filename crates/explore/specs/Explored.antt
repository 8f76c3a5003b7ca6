-- States that stand for all that is reachable. Laws speak of it; no rule.
use Rattle.std.specs.Prelude.{◌≡◌, ℕ, ◌<◌, Bool, true, false, ◌&&◌, Ok, Err, List, [], map, Contains}
use Rattle.std.specs.List.{list_all}
use Rattle.persist_buffer.specs.State.{Memory}
use Rattle.pending_images.specs.Cuts.{written}
use Rattle.machine.specs.declared.refusal.Refusal.{Refusal}
use Rattle.machine.specs.declared.step.Seen.{Seen}
use Rattle.machine.specs.declared.step.Step.{Step}
use Rattle.machine.specs.Limits.{max_turns}
use Rattle.machine.specs.Processors.{restart_of}
use Rattle.machine.specs.State.{State}
use Rattle.machine.specs.Steps.{step_of}
use Rattle.explore.specs.Covering.{IsLike}
use Rattle.explore.specs.Followed.{own_end}
use Rattle.explore.specs.Ends.{all_run_as, has_ended}
use Rattle.explore.specs.Questions.{is_move, is_room}

-- what a crash leaves of a state, where these values are persisted, but for the counts
abbrev pub fallen : State → List ℕ → State
fallen s persisted = record s { processors = map restart_of s.processors; memory = record { pending = []; persisted = persisted } }

-- In what follows `sets` is true where keys tell what each line may hold, and false where they tell what is pending and persisted (`Keys: memory_key`).

-- one of the states is like this one
abbrev pub IsAmong : Bool → List State → State → Type 0
IsAmong sets nodes t = (r : State) × Contains nodes r × IsLike sets r t

-- What one of the nodes leads to by a step of a processor, and the own steps that follow, is like one of the nodes. None lacks room, and a turn is
-- left.
pub record IsExpanded (sets locals : Bool) (nodes : List State) (r : State) : Type 0 where
  pub time : r.turns < max_turns
  pub moves : (step : Step) (seen : Seen) (t : State) → is_move step ≡ true → step_of r step ≡ Ok (seen, t) → IsAmong sets nodes (own_end locals t)
  pub room : (step : Step) (refusal : Refusal) → is_move step ≡ true → step_of r step ≡ Err refusal → is_room refusal ≡ false

-- ---- ends

-- all that is pending is persisted
abbrev pub whole : Memory → Memory
whole m = record { pending = []; persisted = written m.pending m.persisted }

-- the same state with all that is pending persisted
abbrev pub ended : State → State
ended s = record s { memory = whole s.memory }

-- whether the processors of a state have ended, after a crash or before the first one
abbrev pub have_ended : Bool → State → Bool
have_ended recovered s = list_all has_ended s.processors && all_run_as recovered s.processors

-- A state whose processors have ended is this end, once all that is pending is persisted.
pub record IsEndNode (recovered : Bool) (r t : State) : Type 0 where
  pub ended : have_ended recovered r ≡ true
  pub shape : t.shape ≡ r.shape
  pub processors : t.processors ≡ r.processors
  pub memory : t.memory ≡ whole r.memory
