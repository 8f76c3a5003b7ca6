-- States in which no step is a processor's own stand for those that lead to them by such steps. Laws speak of it; no rule.
use Rattle.std.specs.Prelude.{◌≡◌, ◌⊎◌, ℕ, ◌+◌, ◌<◌, ◌≤◌, Bool, true, false, ◌&&◌, ◌||◌, ◌==◌, not, Some, Ok, List, [], Contains, length, map, slice_get}
use Rattle.std.specs.Option.{option_map_or}
use Rattle.machine.specs.declared.step.Seen.{Seen}
use Rattle.machine.specs.declared.step.Step.{Step}
use Rattle.machine.specs.Limits.{max_turns}
use Rattle.machine.specs.Processors.{restart_of}
use Rattle.machine.specs.State.{State}
use Rattle.machine.specs.Steps.{step_of}
use Rattle.explore.specs.Covering.{SpeaksFor}
use Rattle.conditions.specs.Formulas.{Formula}
use Rattle.conditions.specs.Truth.{asks_persisted, reads_persisted, reads_registers}
use Rattle.explore.specs.declared.question.Question.{Question}
use Rattle.explore.specs.Ends.{holds_at}
use Rattle.explore.specs.Followed.{all_own, first_own, own_end}
use Rattle.explore.specs.Explored.{IsAmong, IsExpanded, ended, fallen, have_ended}
use Rattle.explore.specs.LineSets.{AreHeld}
use Rattle.pending_images.specs.Changes.{IsReached}
use Rattle.explore.specs.Questions.{is_move}
use Rattle.explore.specs.Reachable.{IsKept}
use Rattle.explore.specs.Own.{HaveGone, is_private}
use Rattle.explore.specs.Sound.{IsSound}

-- In what follows `sets` is true where keys tell what each line may hold, and false where they tell what is pending and persisted (`Keys: memory_key`).

-- All that t leads to, r leads to but for the processors' own steps: they were made in r, and its memory speaks for that of t.
pub record CoversAhead (sets locals : Bool) (r t : State) : Type 0 where
  pub shape : t.shape ≡ r.shape
  pub processors : HaveGone locals r.shape t.processors r.processors
  pub memory : SpeaksFor sets r.memory t.memory

-- A step of one state that is a processor's own leads to another.
abbrev pub IsOwnStep : Bool → State → State → Type 0
IsOwnStep locals s t =
    (step : Step) × (seen : Seen) × (is_move step ≡ true) × (step_of s step ≡ Ok (seen, t)) × (is_private locals t seen ≡ true)

-- no step of a state is a processor's own
abbrev pub IsIdle : Bool → State → Type 0
IsIdle locals r = (step : Step) (seen : Seen) (t : State) → is_move step ≡ true → step_of r step ≡ Ok (seen, t) → is_private locals t seen ≡ false

-- What a state that stands for others is to keep: each condition that is asked of ends, and turns for its end.
pub record Keeps (question : Question) (r : State) : Type 0 where
  pub ends : (condition : Formula) → question.ends ≡ Some condition → have_ended false r ≡ true → holds_at condition (ended r) ≡ true
  pub recovered : (condition : Formula) → question.recovered ≡ Some condition → have_ended true r ≡ true → holds_at condition (ended r) ≡ true
  pub room : r.turns + length r.memory.pending ≤ max_turns

-- Whether local steps count as a processor's own: where no register is asked for of every state.
abbrev pub counts_locals : Question → Bool
counts_locals question = option_map_or (λ condition. not (reads_registers condition)) question.all true

-- whether a condition tests persisted values alone, or none
abbrev pub is_unmixed : Formula → Bool
is_unmixed condition = reads_persisted condition || not (asks_persisted condition)

-- Whether keys tell what each line may hold, and not the order of what is pending: where no condition is asked of every state that tests persisted
-- values and others, and nothing is pending at first.
abbrev pub by_sets : Question → State → Bool
by_sets question start = option_map_or is_unmixed question.all true && (length start.memory.pending == 0)

-- No step of a node is a processor's own; what others lead to, once own steps were made, is like one of the nodes; and it keeps what is asked of ends.
pub record IsTried (sets locals : Bool) (question : Question) (nodes : List State) (r : State) : Type 0 where
  pub idle : IsIdle locals r
  pub expanded : IsExpanded sets locals nodes r
  pub kept : Keeps question r

-- The images of a node are looked at: each makes the condition true that is asked of them; and where runs crash, what a crash leaves after any changes
-- is like one of the nodes.
pub record IsSeen (sets : Bool) (question : Question) (nodes : List State) (r : State) : Type 0 where
  pub all : (condition : Formula) → question.all ≡ Some condition → IsKept condition r
  pub falls : question.crashes ≡ true → (persisted : List ℕ) → IsReached r.memory persisted → IsAmong sets nodes (fallen r persisted)

-- Whether images may be left to a later node: where keys tell what each line may hold, and an image alone decides what is asked of every state.
abbrev pub may_pass : Bool → Question → Bool
may_pass sets question = sets && option_map_or reads_persisted question.all true

-- The images of a node are left to a node of a greater number, in which no step is a processor's own either: what the lines of the one may hold,
-- those of the other may, and their processors restart alike.
pub record IsPassed (locals : Bool) (nodes : List State) (i : ℕ) (r : State) : Type 0 where
  pub place : ℕ
  pub later : i < place
  pub node : State
  pub there : slice_get nodes place ≡ Some node
  pub idle : IsIdle locals node
  pub shape : r.shape ≡ node.shape
  pub restarts : map restart_of r.processors ≡ map restart_of node.processors
  pub held : (persisted : List ℕ) → AreHeld r.memory persisted → AreHeld node.memory persisted

-- The images of the node of a number are looked at, or left to a later one.
abbrev pub IsLookedAt : Bool → Bool → Question → List State → ℕ → State → Type 0
IsLookedAt sets locals question nodes i r = IsSeen sets question nodes r ⊎ ((may_pass sets question ≡ true) × IsPassed locals nodes i r)

-- Own steps of a node, at least one, lead to what is like one of the nodes.
pub record IsAdvanced (sets locals : Bool) (nodes : List State) (r : State) : Type 0 where
  pub step : Step
  pub first : first_own locals r ≡ Some step
  pub there : IsAmong sets nodes (own_end locals r)

-- A node of a number is of one of two kinds: it is tried, and its images are looked at, here or later; or its own steps are followed.
abbrev pub IsClosed : Bool → Bool → Question → List State → ℕ → State → Type 0
IsClosed sets locals question nodes i r =
    (IsTried sets locals question nodes r × IsLookedAt sets locals question nodes i r) ⊎ IsAdvanced sets locals nodes r

-- each node is
pub record AreClosedAhead (sets locals : Bool) (question : Question) (nodes : List State) : Type 0 where
  pub each : (i : ℕ) (r : State) → slice_get nodes i ≡ Some r → IsClosed sets locals question nodes i r

-- Sound nodes are closed, and a sound state is like one of them. Where keys tell what lines may hold, nothing is pending in it.
pub record AreClosedFrom (sets locals : Bool) (question : Question) (nodes : List State) (start : State) : Type 0 where
  pub closed : AreClosedAhead sets locals question nodes
  pub sound : IsSound start
  pub there : IsAmong sets nodes start
  pub sound_nodes : (r : State) → Contains nodes r → IsSound r
  pub begins : sets ≡ true → start.memory.pending ≡ []

-- one of the nodes in which no step is a processor's own covers a state
abbrev pub IsCoveredAhead : Bool → Bool → Question → List State → State → Type 0
IsCoveredAhead sets locals question nodes t = (r : State) × Contains nodes r × IsTried sets locals question nodes r × CoversAhead sets locals r t

-- A step leads ahead: the state after it covers the one before, and fewer own steps are left.
pub record LeadsAhead (sets locals : Bool) (s t : State) : Type 0 where
  pub covers : CoversAhead sets locals t s
  pub fewer : all_own t.processors < all_own s.processors
