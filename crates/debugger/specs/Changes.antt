-- What the calls of a session make of it, and of its watchers.
use Rattle.std.specs.Prelude.{◌≡◌, ℕ, ◌-◌, ◌==◌, Option, Some, None, Result, List, length, map}
use Rattle.std.specs.List.{find}
use Rattle.std.specs.declared.dyn_box.DynBox.{DynBox}
use Rattle.std.specs.declared.alloc.Global.{Global}
use Rattle.outcomes.specs.declared.or_no_memory.OrNoMemory.{OrNoMemory}
use Rattle.outcomes.specs.declared.or_no_memory.OrNoMemory.TheVariants.{Fault, NoMemory}
use Rattle.machine.specs.State.{State}
use Rattle.machine.specs.declared.refusal.Refusal.{Refusal}
use Rattle.machine.specs.declared.step.Seen.{Seen}
use Rattle.machine.specs.declared.step.Step.{Step}
use Rattle.debugger.specs.Notes.{Meaning}
use Rattle.debugger.specs.Stops.{Armed}
use Rattle.debugger.specs.Sessions.{Watch, opened, watch, watch_kept, watch_told, after, gone_back, unmade, watch_of, with_stop, with_watch, without_stop, without_watch}
use Rattle.debugger.specs.Marks.{marks_after, marks_kept, replayed_of}
use Rattle.debugger.specs.Turns.{HasTurned, HasTried}
use Rattle.debugger.specs.Values.{stop_armed, stops_armed, session_of, marks_of, replays_of}
use Rattle.debugger.specs.declared.fault.SessionFault.{SessionFault}
use Rattle.debugger.specs.declared.fault.SessionFault.TheVariants.{DoubleId}
use Rattle.debugger.specs.declared.stop.Stop.{Stop}
use Rattle.debugger.specs.declared.attached.Attached.{Attached}
use Rattle.debugger.specs.declared.session.Session.{Session}

-- why a stop, or a watcher, is not added: there is one of its id, or memory was refused
abbrev pub why_not_added : {A : Type 0} → Option A → OrNoMemory SessionFault
why_not_added (Some one) = Fault DoubleId
why_not_added None = NoMemory

-- attached watchers, by what their boxes mean
module _ {J : Type 0} {W : J → Type 0} (means : DynBox J Global W → Meaning) where
  abbrev pub watches_of : List (Attached J W) → List Watch
  watches_of watchers = map (λ w. watch w.id (means w.watcher)) watchers

  -- their ids, notes and selections stay
  abbrev pub MeanAsBefore : List (Attached J W) → List (Attached J W) → Type 0
  MeanAsBefore old new = watches_of new ≡ watches_of old

  -- one is told of the step of this number, which showed this and led to this state
  abbrev pub IsTold : ℕ → Seen → State → Attached J W → Attached J W → Type 0
  IsTold number seen s old new = watch new.id (means new.watcher) ≡ watch_told number seen s (watch old.id (means old.watcher))

  -- each is told of it
  abbrev pub AreTold : ℕ → Seen → State → List (Attached J W) → List (Attached J W) → Type 0
  AreTold number seen s old new = watches_of new ≡ map (watch_told number seen s) (watches_of old)

  -- one forgets its notes of steps beyond the first n
  abbrev pub IsKeptTo : ℕ → Attached J W → Attached J W → Type 0
  IsKeptTo n old new = watch new.id (means new.watcher) ≡ watch_kept n (watch old.id (means old.watcher))

  -- each does
  abbrev pub AreKeptTo : ℕ → List (Attached J W) → List (Attached J W) → Type 0
  AreKeptTo n old new = watches_of new ≡ map (watch_kept n) (watches_of old)

-- one session: its stops, and the lengths with a checkpoint
module _ {I J : Type 0} {V : I → Type 0} {W : J → Type 0} {G : _} (s : Session I J V W G) where
  -- the stop of an id
  abbrev pub stop_in : ℕ → Option Armed
  stop_in id = find (λ t. t.id == id) (stops_armed s.stops.items)

  -- this stop is armed under the id
  abbrev pub HasStop : ℕ → Stop I V G → Type 0
  HasStop id stop = stop_in id ≡ Some (stop_armed stop)

  -- the lengths with a checkpoint once k steps more were tried
  abbrev pub marks_trying : ℕ → List ℕ
  marks_trying k = marks_after (marks_of s) (length s.past.history) k

  -- the lengths with a checkpoint that are left where it goes back by n steps
  abbrev pub marks_left : ℕ → List ℕ
  marks_left n = marks_kept (marks_of s) (length s.past.history - n)

  -- how many steps it replays where it goes back by n steps
  abbrev pub replays_back : ℕ → ℕ
  replays_back n = replayed_of (marks_of s) (length s.past.history - n)

-- one session, by what a boxed watcher means
module _ {I J : Type 0} {V : I → Type 0} {W : J → Type 0} {G : _} (means : DynBox J Global W → Meaning) (s : Session I J V W G) where
  -- it begins at a state
  abbrev pub IsOpenedAt : State → Type 0
  IsOpenedAt t = session_of means s ≡ opened t

  -- the watcher of an id
  abbrev pub watch_in : ℕ → Option Watch
  watch_in id = watch_of (session_of means s) id

  -- this watcher is attached under the id
  abbrev pub HasWatch : ℕ → DynBox J Global W → Type 0
  HasWatch id watcher = watch_in id ≡ Some (watch id (means watcher))

-- a session before a call and after it
module _ {I J : Type 0} {V : I → Type 0} {W : J → Type 0} {G : _} (means : DynBox J Global W → Meaning) (old new : Session I J V W G) where
  abbrev pub Stays : Type 0
  Stays = session_of means new ≡ session_of means old

  abbrev pub GainsStop : Stop I V G → Type 0
  GainsStop stop = session_of means new ≡ with_stop (session_of means old) (stop_armed stop)

  abbrev pub LosesStop : ℕ → Type 0
  LosesStop id = session_of means new ≡ without_stop (session_of means old) id

  abbrev pub GainsWatch : ℕ → DynBox J Global W → Type 0
  GainsWatch id watcher = session_of means new ≡ with_watch (session_of means old) (watch id (means watcher))

  abbrev pub LosesWatch : ℕ → Type 0
  LosesWatch id = session_of means new ≡ without_watch (session_of means old) id

  abbrev pub GoesBack : ℕ → Type 0
  GoesBack n = session_of means new ≡ gone_back (session_of means old) n

  abbrev pub Undoes : ℕ → Type 0
  Undoes n = session_of means new ≡ unmade (session_of means old) n

  -- it makes steps, one after another
  abbrev pub Makes : List Step → Type 0
  Makes steps = session_of means new ≡ after (session_of means old) steps

  -- it tries one step
  abbrev pub Tries : Step → Result (Option ℕ) (OrNoMemory Refusal) → Type 0
  Tries step end = HasTurned (session_of means old) (session_of means new) step end

-- the same of its checkpoints
module _ {I J : Type 0} {V : I → Type 0} {W : J → Type 0} {G : _} (old new : Session I J V W G) where
  -- they stay, and how many steps the last going back replayed
  abbrev pub KeepsMarks : Type 0
  KeepsMarks = (marks_of new ≡ marks_of old) × (replays_of new ≡ replays_of old)

  -- one step is tried
  abbrev pub TriesMarks : Result (Option ℕ) (OrNoMemory Refusal) → Type 0
  TriesMarks end = HasTried (marks_of old) (marks_of new) (length old.past.history) end
