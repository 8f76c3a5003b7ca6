-- What an exploration has found: paths from the start, no two of which lead to states that are alike. No rule, and in no public clause.
use Rattle.std.specs.Prelude.{◌≡◌, ℕ, ◌+◌, ◌<◌, Bool, true, false, Option, Some, None, Result, Ok, Err, List, [], ◌∷◌, ◌++◌, is_some, length, map, nat_eq, slice_get, slice_index_or, if◌then◌else◌}
use Rattle.std.specs.List.{list_any, range_with_len}
use Rattle.std.specs.Option.{option_map_or}
use Rattle.std.specs.Cmp.Lexicographic.{pointwise}
use Rattle.machine.specs.declared.refusal.Refusal.{Refusal}
use Rattle.machine.specs.declared.step.Seen.{Seen}
use Rattle.machine.specs.declared.step.Step.{Step}
use Rattle.machine.specs.declared.step.Step.TheVariants.{Exec, Drain}
use Rattle.machine.specs.State.{Processor, State}
use Rattle.machine.specs.Steps.{run_of, step_of}
use Rattle.images.specs.Images.{closed_set_of}
use Rattle.explore.specs.Questions.{is_room}
use Rattle.explore.specs.Falls.{fall_at}
use Rattle.explore.specs.Keys.{fallen_key, key_of}
use Rattle.explore.specs.Followed.{first_own, own_end, owns_of}
use Rattle.explore.specs.declared.node.Node.{Node}

-- How a state was found: from the one that was found as number `parent`, by these steps.
pub record Link : Type 0 where
  pub parent : ℕ
  pub steps : List Step

-- the links from these states, by these steps
abbrev pub links_of : List ℕ → List (List Step) → List Link
links_of [] paths = []
links_of (parent ∷ parents) [] = []
links_of (parent ∷ parents) (steps ∷ paths) = record { parent = parent; steps = steps } ∷ links_of parents paths

-- the list at a place; none, where there is no such place
abbrev pub path_at : List (List Step) → ℕ → List Step
path_at paths i = slice_index_or paths i []

-- the last steps to a state
abbrev pub steps_at : List Link → ℕ → List Step
steps_at links i = option_map_or (λ link. link.steps) (slice_get links i) []

-- with the lists that more links give
abbrev pub linked : List (List Step) → List Link → List (List Step)
linked paths [] = paths
linked paths (link ∷ links) = linked (paths ++ (path_at paths link.parent ++ link.steps) ∷ []) links

pub record Found : Type 0 where
  -- true where keys tell what each line may hold, and false where they tell what is pending and persisted (`Keys: memory_key`)
  pub sets : Bool
  -- lists of steps from the start
  pub paths : List (List Step)
  -- the keys of the states that they lead to, in the same order
  pub keys : List (List ℕ)

-- nothing yet
abbrev pub no_states : Bool → Found
no_states sets = record { sets = sets; paths = []; keys = [] }

-- this is the list of steps to the state of this number
abbrev pub HasPath : Found → ℕ → List Step → Type 0
HasPath found at path = slice_get found.paths at ≡ Some path

-- a node is one of the states that were found
abbrev pub HasNode : Found → Node → Type 0
HasNode found node = HasPath found node.at node.path

-- the number of the state from which another was found: its list of steps is a beginning of the other's; None for the first
abbrev pub IsBefore : List (List Step) → List Link → ℕ → Option ℕ → Type 0
IsBefore paths links at None = path_at paths at ≡ steps_at links at
IsBefore paths links at (Some parent) = (parent < at) × (path_at paths at ≡ path_at paths parent ++ steps_at links at)

-- the state that a path leads to
abbrev pub led_to : State → List Step → State
led_to start path = (run_of path start).state

-- the states that the paths lead to
abbrev pub nodes_of : State → List (List Step) → List State
nodes_of start paths = map (led_to start) paths

-- with one more path, unless the key is there
abbrev pub added : Found → List ℕ → List Step → Found
added found key path =
    if list_any (pointwise nat_eq key) found.keys then found else record { sets = found.sets; paths = found.paths ++ path ∷ []; keys = found.keys ++ key ∷ [] }

-- with what steps lead to from the state of this number, unless the key is there
abbrev pub added_after : Found → ℕ → List ℕ → List Step → Found
added_after found parent key steps = added found key (path_at found.paths parent ++ steps)

-- so many entries of the store buffer of processor p leave, the oldest first
abbrev pub drains : ℕ → ℕ → List Step
drains p count = map (Drain p) (range_with_len 0 count)

-- the steps that processor p may try: it runs an instruction, or an entry of its store buffer leaves
abbrev pub moves_at : ℕ → Processor → List Step
moves_at p c = Exec p ∷ drains p (length c.buffer)

-- those of processor p of a state, if there is one
abbrev pub moves_by : State → ℕ → List Step
moves_by s p = option_map_or (moves_at p) (slice_get s.processors p) []

-- those of processors of which the first has the number p
abbrev pub moves_from : ℕ → List Processor → List Step
moves_from p [] = []
moves_from p (c ∷ cpus) = moves_at p c ++ moves_from (p + 1) cpus

-- those of all processors
abbrev pub moves_of : State → List Step
moves_of s = moves_from 0 s.processors

-- what trying a step finds: the path with that step and the own steps that follow it, where it is accepted; or that room lacks
abbrev pub tried_by : Bool → Result (Seen × State) Refusal → Found → List Step → Step → Option Step × Found
tried_by locals (Ok done) found path step = (None, added found (key_of found.sets (own_end locals done.1)) (path ++ step ∷ owns_of locals done.1))
tried_by locals (Err refusal) found path step = ((if is_room refusal then Some step else None), found)

-- and then others, unless room lacked
abbrev pub then_tried : Option Step × Found → (Found → Option Step × Found) → Option Step × Found
then_tried (Some step, found) rest = (Some step, found)
then_tried (None, found) rest = rest found

-- steps tried one after another, up to one for which room lacks
abbrev pub tries_of : Bool → State → List Step → List Step → Found → Option Step × Found
tries_of locals s path [] found = (None, found)
tries_of locals s path (step ∷ steps) found = then_tried (tried_by locals (step_of s step) found path step) (tries_of locals s path steps)

-- A step is tried from a node, or steps one after another: what is found then, and the step that lacks room, if one does.
abbrev pub Tries : Bool → Node → Step → Found → Found → Option Step → Type 0
Tries locals node step old new lacks = ◌≡◌ {A = Option Step × Found} (lacks, new) (tried_by locals (step_of node.state step) old node.path step)

abbrev pub TriesAll : Bool → Node → List Step → Found → Found → Option Step → Type 0
TriesAll locals node steps old new lacks = ◌≡◌ {A = Option Step × Found} (lacks, new) (tries_of locals node.state node.path steps old)

-- with what the own steps of a state lead to, if it has any
abbrev pub advanced_if : Bool → Bool → State → List Step → Found → Found
advanced_if true locals s path found = added found (key_of found.sets (own_end locals s)) (path ++ owns_of locals s)
advanced_if false locals s path found = found

-- Whether a node has own steps; and if so, what they lead to is found.
abbrev pub FollowsOwn : Bool → Node → Found → Found → Bool → Type 0
FollowsOwn locals node old new has = (has ≡ is_some (first_own locals node.state)) × (new ≡ advanced_if has locals node.state node.path old)

-- with a crash that leaves an image, if there are entries that leave it: at these places
abbrev pub fallen_by : State → List Step → List ℕ → Option (List ℕ) → Found → Found
fallen_by s path image None found = found
fallen_by s path image (Some places) found = added found (fallen_key found.sets s image) (path ++ fall_at s.memory.pending places)

-- with a crash that leaves each of some images
abbrev pub falls_of : State → List Step → List (List ℕ) → Found → Found
falls_of s path [] found = found
falls_of s path (image ∷ images) found = falls_of s path images (fallen_by s path image (closed_set_of s image) found)

-- the same from a node: with a crash that leaves an image, or with crashes that leave each of some
abbrev pub fallen_from : Node → List ℕ → Found → Found
fallen_from node image found = fallen_by node.state node.path image (closed_set_of node.state image) found

abbrev pub falls_from : Node → List (List ℕ) → Found → Found
falls_from node images found = falls_of node.state node.path images found
