-- What the states that were visited give: outcomes of ends, images, and instructions that run. No rule; the law `what_runs_is_run_by_nodes` speaks of `IsNotedBy`, and no other public clause of this.
use Rattle.std.specs.Prelude.{◌≡◌, ◌⊎◌, ℕ, ◌+◌, ◌<◌, Bool, true, false, Option, Some, None, Result, Ok, Err, List, [], ◌∷◌, ◌++◌, Contains, is_none, slice_get, if◌then◌else◌}
use Rattle.std.specs.Option.{option_map_or}
use Rattle.machine.specs.declared.refusal.Refusal.{Refusal}
use Rattle.machine.specs.declared.step.Seen.{Seen}
use Rattle.machine.specs.declared.step.Step.{Step}
use Rattle.machine.specs.declared.step.Step.TheVariants.{Exec}
use Rattle.machine.specs.State.{Processor, State}
use Rattle.outcomes.specs.Outcomes.{refusal_of}
use Rattle.machine.specs.Steps.{step_of}
use Rattle.pending_images.specs.Listings.{in_order}
use Rattle.images.specs.Images.{IsImage}
use Rattle.explore.specs.declared.gathered.Gathered.{Gathered}
use Rattle.explore.specs.declared.question.Question.{Question}
use Rattle.explore.specs.Ahead.{IsIdle, IsPassed, IsSeen, by_sets, counts_locals, may_pass}
use Rattle.explore.specs.Explored.{ended, have_ended}
use Rattle.explore.specs.Findings.{Findings}
use Rattle.explore.specs.Followed.{after, first_own, owns_of}
use Rattle.explore.specs.Found.{led_to, moves_of, nodes_of}
use Rattle.explore.specs.Keys.{list_key}
use Rattle.explore.specs.Outcomes.{outcome_of}
use Rattle.explore.specs.Ran.{site}
use Rattle.explore.specs.Sets.{included_all}

-- the outcome of the end of a state, if its processors have ended, after a crash or before the first one
abbrev pub ends_at : Bool → State → List (List ℕ)
ends_at recovered s = if have_ended recovered s then outcome_of (ended s) ∷ [] else []

-- the instruction that processor p executes next, if it may now
abbrev pub run_by : State → ℕ → Processor → List (List ℕ)
run_by s p c = if is_none (refusal_of (step_of s (Exec p))) then site p c.recovering c.place ∷ [] else []

-- the same, where there is a processor p
abbrev pub run_at : State → ℕ → List (List ℕ)
run_at s p = option_map_or (run_by s p) (slice_get s.processors p) []

-- those of processors of which the first has the number p
abbrev pub runs_from : State → ℕ → List Processor → List (List ℕ)
runs_from s p [] = []
runs_from s p (c ∷ cpus) = run_by s p c ++ runs_from s (p + 1) cpus

-- those of all processors
abbrev pub runs_at : State → List (List ℕ)
runs_at s = runs_from s 0 s.processors

-- the instruction that a step executes, if it executes one
abbrev pub executed : State → Step → List (List ℕ)
executed s (Exec p) = run_at s p
executed s _ = []

-- those that steps execute, one after another
abbrev pub executed_by : State → List Step → List (List ℕ)
executed_by s [] = []
executed_by s (step ∷ steps) = executed s step ++ executed_by (after s step) steps

-- those that the own steps execute which follow a state
abbrev pub followed_runs : Bool → State → List (List ℕ)
followed_runs locals s = executed_by s (owns_of locals s)

-- the same of the state that a step leads to, where it is accepted
abbrev pub runs_behind : Bool → Result (Seen × State) Refusal → List (List ℕ)
runs_behind locals (Ok done) = followed_runs locals done.1
runs_behind locals (Err refusal) = []

-- the same of each of some steps
abbrev pub runs_behind_all : Bool → State → List Step → List (List ℕ)
runs_behind_all locals s [] = []
runs_behind_all locals s (step ∷ steps) = runs_behind locals (step_of s step) ++ runs_behind_all locals s steps

-- Of the own steps that follow a state; where there are none, of those that follow each of its moves.
abbrev pub later_runs : Bool → State → Option Step → List (List ℕ)
later_runs locals s (Some step) = followed_runs locals s
later_runs locals s None = runs_behind_all locals s (moves_of s)

-- what a visit to a state notes: the instructions that it executes, and those of the own steps that are followed
abbrev pub visit_runs : Bool → State → List (List ℕ)
visit_runs locals s = runs_at s ++ later_runs locals s (first_own locals s)

-- an instruction is noted at one of the states
abbrev pub IsNotedBy : Bool → List State → ℕ → Bool → ℕ → Type 0
IsNotedBy locals nodes p recovery place = (r : State) × Contains nodes r × Contains (visit_runs locals r) (site p recovery place)

-- nothing yet
abbrev pub none_gathered : Gathered
none_gathered = record { ends = []; recovered = []; images = []; ran = []; looked = [] }

-- what is found, where all was visited: so many states, and what they give
abbrev pub findings_of : ℕ → Gathered → Findings
findings_of states gathered =
    record { states = states; ends = in_order gathered.ends; recovered = in_order gathered.recovered; images = in_order gathered.images; ran = gathered.ran }

-- A list holds what each state that was visited gives, and nothing else.
pub record IsCollected (give : State → List (List ℕ)) (start : State) (paths : List (List Step)) (at : ℕ) (xs : List (List ℕ)) : Type 0 where
  pub only : (x : List ℕ) → Contains xs x → (i : ℕ) × (path : List Step) × (i < at) × (slice_get paths i ≡ Some path) × Contains (give (led_to start path)) x
  pub each : (i : ℕ) (path : List Step) (x : List ℕ) → i < at → slice_get paths i ≡ Some path → Contains (give (led_to start path)) x → Contains xs x

-- A list holds images of states that were visited, and nothing else: all of each in which no step is a processor's own, unless they may be left, and
-- are, to a later state.
pub record AreGatheredImages (may locals : Bool) (start : State) (paths : List (List Step)) (at : ℕ) (images : List (List ℕ)) : Type 0 where
  pub only : (image : List ℕ) → Contains images image → (i : ℕ) × (path : List Step) × (i < at) × (slice_get paths i ≡ Some path) × IsImage (led_to start path) image
  pub each : (i : ℕ) (path : List Step) → i < at → slice_get paths i ≡ Some path → IsIdle locals (led_to start path)
      → ((may ≡ true) × IsPassed locals (nodes_of start paths) i (led_to start path)) ⊎ ((image : List ℕ) → IsImage (led_to start path) image → Contains images image)

-- A path leads to a state that has the memory of this key. Its images were looked at, and are among these where they are asked for.
pub record WasLookedAt (question : Question) (start : State) (paths : List (List Step)) (images : List (List ℕ)) (key : List ℕ) : Type 0 where
  pub path : List Step
  pub memory : list_key (led_to start path) ≡ key
  pub seen : IsSeen (by_sets question start) question (nodes_of start paths) (led_to start path)
  pub given : question.images ≡ true → (image : List ℕ) → IsImage (led_to start path) image → Contains images image

-- that is so of each of some keys
abbrev pub WereLookedAt : Question → State → List (List Step) → List (List ℕ) → List (List ℕ) → Type 0
WereLookedAt question start paths images keys = (key : List ℕ) → Contains keys key → WasLookedAt question start paths images key

-- each of the lists does
pub record IsGathered (question : Question) (start : State) (paths : List (List Step)) (at : ℕ) (now : Gathered) : Type 0 where
  pub ends : IsCollected (ends_at false) start paths at now.ends
  pub recovered : IsCollected (ends_at true) start paths at now.recovered
  pub images : question.images ≡ true → AreGatheredImages (may_pass (by_sets question start) question) (counts_locals question) start paths at now.images
  pub ran : IsCollected (visit_runs (counts_locals question)) start paths at now.ran
  pub looked : WereLookedAt question start paths now.images now.looked

-- some images, where they are asked for
abbrev pub if_asked : Bool → List (List ℕ) → List (List ℕ)
if_asked asked images = if asked then images else []

-- with more images
abbrev pub with_images : Gathered → List (List ℕ) → Gathered
with_images gathered images = record gathered { images = included_all gathered.images images }

-- what a tried state gives is gathered, with these images, and with these instructions that run behind it
pub record IsNoted (s : State) (more runs : List (List ℕ)) (old new : Gathered) : Type 0 where
  pub ends : new.ends ≡ included_all old.ends (ends_at false s)
  pub recovered : new.recovered ≡ included_all old.recovered (ends_at true s)
  pub images : new.images ≡ included_all old.images more
  pub ran : new.ran ≡ included_all old.ran runs
