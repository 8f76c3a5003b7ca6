-- Every run of a machine with one processor does what its program does alone, or the beginning of it.
use Rattle.std.proofs.Common.{◌≡◌, ℕ, zero, suc, ◌≤◌, true, false, Option, Some, None, Ok, List, [], ◌∷◌, ◌++◌, length, refl, sym, ap, subst, ◌∙◌, true≢false, arith, is_none}
use Rattle.std.specs.Prelude.{slice_get, slice_set, unwrap_or}
use Rattle.std.specs.Option.{option_map_or}
use Rattle.std.proofs.lemmas.List.{append_assoc, append-nil}
use Rattle.lines_layout.specs.Lines.{max_lines}
use Rattle.isa.specs.declared.instr.Instr.{Instr}
use Rattle.store_buffer.specs.Buffers.{forward_of}
use Rattle.persist_buffer.specs.declared.entry.PendingEntry.{PendingEntry}
use Rattle.persist_buffer.specs.declared.entry.PendingEntry.TheVariants.{Write, Marker}
use Rattle.persist_buffer.specs.Listings.{LinesBelow}
use Rattle.persist_buffer.specs.Memories.{coherent}
use Rattle.persist_buffer.specs.State.{Memory}
use Rattle.persist_buffer.proofs.PersistingIsASplit.{persisting_always, settling_always}
use Rattle.pending_images.specs.Changes.{Change, IsReached, persists, settles}
use Rattle.processor.specs.declared.act.Act.{Act}
use Rattle.processor.specs.Cpus.{Cpu}
use Rattle.processor.specs.Executions.{next_instruction}
use Rattle.machine.specs.declared.step.Seen.{Seen}
use Rattle.machine.specs.declared.step.Step.{Step}
use Rattle.machine.specs.declared.step.Step.TheVariants.{Exec, Drain, Persist, Settle, Crash}
use Rattle.machine.specs.Processors.{contents_of, cpu_of, program_of, restart_of}
use Rattle.machine.specs.State.{Processor, State}
use Rattle.machine.specs.Steps.{step_of}
use Rattle.machine.proofs.ExecShowsAll.{exec_shown}
use Rattle.machine.proofs.PersistAndSettleStepsSplit.{persist_only, settle_only}
use Rattle.machine.proofs.ProcessorSteps.{drain_only, exec_only}
use Rattle.images.proofs.StepsReach.{lines_within}
use Rattle.explore.specs.Reachable.{IsReachable, is_crash}
use Rattle.explore.specs.Sound.{IsSound}
use Rattle.explore.specs.Alone.{Values, done_by, ends_alone, ends_within, events_alone, events_shown, events_within, values_after, values_seen}
use Rattle.explore.specs.FenceMemories.{IsReachedInOne, fence_memories}
use Rattle.explore.specs.OneProcessor.{IsAlone, IsLeftAlone}
use Rattle.explore.specs.declared.event.Event.{Event}
use Rattle.explore.proofs.LaterMemories.{IsWhole, change_shows_nowhere}
use Rattle.explore.proofs.SoundRuns.{step_sound}
use Rattle.explore.proofs.InstructionsAlone.{DoesAsAlone, does_as_alone, leaving_values, shown_values}
use Rattle.explore.proofs.Late.{Leaves}
use Rattle.explore.proofs.MachineRuns.{entry_arrives, machine_left, only_one}
use Rattle.explore.proofs.Shown.{Shows, events_of, shown_by}

-- how many instructions some steps run
abbrev pub more_run : Step → ℕ → ℕ
more_run (Exec p) n = suc n
more_run (Drain p i) n = n
more_run (Persist line) n = n
more_run Settle n = n
more_run Crash n = n

abbrev pub runs_in : List Step → ℕ
runs_in [] = 0
runs_in (step ∷ steps) = more_run step (runs_in steps)

fewer_lines : (lines most : ℕ) (es : List PendingEntry) → lines ≤ most → LinesBelow lines es → LinesBelow most es
fewer_lines lines most [] few below = tt
fewer_lines lines most (Write word value ∷ es) few below = let first = below.0 in (omega (arith, first, few), fewer_lines lines most es few below.1)
fewer_lines lines most (Marker line ∷ es) few below = fewer_lines lines most es few below

sound_whole : (s : State) → IsSound s → IsWhole s.memory
sound_whole s sound = record {
  lines = fewer_lines (length s.shape) max_lines s.memory.pending sound.shape.lines (lines_within s sound.within);
  persisted = sound.persisted;
}

-- a step goes on with what the program does alone
pub record GoesOn (s t : State) (c : Processor) (step : Step) (seen : Seen) : Type 0 where
  pub after : Processor
  pub only : t.processors ≡ after ∷ []
  pub shape : t.shape ≡ s.shape
  pub restarts : restart_of after ≡ restart_of c
  pub events_are : (n : ℕ) → events_of seen ++ events_alone n t after ≡ events_alone (more_run step n) s c

-- the same events from the same place
same_events : (n : ℕ) (shape lines : List ℕ) (program other : List Instr) (c d : Cpu) (values others : Values) → shape ≡ lines → program ≡ other → c ≡ d → ((word : ℕ) → values word ≡ others word)
    → events_within n shape program c values ≡ events_within n lines other d others
same_events n shape lines program other c d values others a b e f = λ k. events_within n (a k) (b k) (e k) (λ word. f word k)

-- an instruction first
pub run_first : (n : ℕ) (shape : List ℕ) (program : List Instr) (c : Cpu) (values : Values) (instr : Instr) → next_instruction program c ≡ Some instr
    → events_within (suc n) shape program c values ≡ events_shown (done_by instr shape c values).0 ++ events_within n shape program (done_by instr shape c values).1 (values_after (done_by instr shape c values).0 values)
run_first n shape program c values instr next = ap (λ (o : Option Instr). option_map_or (λ i. events_shown (done_by i shape c values).0 ++ events_within n shape program (done_by i shape c values).1 (values_after (done_by i shape c values).0 values)) o []) next

exec_events : (n : ℕ) (s t : State) (c d : Processor) (act : Act) → t.shape ≡ s.shape → DoesAsAlone s.shape c d s.memory act → ((word : ℕ) → values_seen t d word ≡ values_after act (values_seen s c) word)
    → events_shown act ++ events_alone n t d ≡ events_alone (suc n) s c
exec_events n s t c d act shape x values =
    let done = done_by x.instr s.shape (cpu_of c) (values_seen s c) in
    ap (λ (a : Act). events_shown a ++ events_alone n t d) x.act_is
    ∙ ap (λ (xs : List Event). events_shown done.0 ++ xs) (same_events n t.shape s.shape (program_of d) (program_of c) (cpu_of d) done.1 (values_seen t d) (values_after done.0 (values_seen s c)) shape x.program_is x.cpu_is
    (λ word. values word ∙ ap (λ (a : Act). values_after a (values_seen s c) word) x.act_is))
    ∙ sym (run_first n s.shape (program_of c) (cpu_of c) (values_seen s c) x.instr x.next)

-- the memory alone changes
change_events : (n : ℕ) (s t : State) (c : Processor) → IsWhole s.memory → t.shape ≡ s.shape → Change s.memory t.memory → events_alone n t c ≡ events_alone n s c
change_events n s t c whole shape change = same_events n t.shape s.shape (program_of c) (program_of c) (cpu_of c) (cpu_of c) (values_seen t c) (values_seen s c) shape refl refl
    (λ word. ap (λ (v : ℕ). unwrap_or (forward_of c.buffer word) v) (change_shows_nowhere s.memory t.memory change whole word))

pub one_goes : (s t : State) (c : Processor) (step : Step) (seen : Seen) → IsSound s → s.processors ≡ c ∷ [] → is_crash step ≡ false → step_of s step ≡ Ok (seen, t) → GoesOn s t c step seen
one_goes s t c (Exec p) seen sound only crash e =
    let x = exec_only s t p seen e in
    let one = only_one c x.before p (ap (λ (cpus : List Processor). slice_get cpus p) (sym only) ∙ x.there) in
    let values : (word : ℕ) → values_seen t x.after word ≡ values_after x.act (values_seen s x.before) word =
    λ word. shown_values x.act (contents_of s.shape x.before.buffer s.memory) (contents_of s.shape x.after.buffer t.memory) word (exec_shown s.shape x.before x.after s.memory t.memory x.act x.ran) in
    record {
      after = x.after;
      only = x.alone.processors ∙ ap (λ (cpus : List Processor). slice_set cpus p x.after) only ∙ one.1 x.after;
      shape = x.alone.shape;
      restarts = (does_as_alone s.shape x.before x.after s.memory t.memory x.act x.ran).restarts ∙ ap restart_of one.0;
      events_are = λ n.
          ap (λ (y : Seen). events_of y ++ events_alone n t x.after) x.shown
          ∙ exec_events n s t x.before x.after x.act x.alone.shape (does_as_alone s.shape x.before x.after s.memory t.memory x.act x.ran) values
          ∙ ap (λ (b : Processor). events_alone (suc n) s b) one.0;
    }
one_goes s t c (Drain p i) seen sound only crash e =
    let x = drain_only s t p i seen e in
    let one = only_one c x.before p (ap (λ (cpus : List Processor). slice_get cpus p) (sym only) ∙ x.there) in
    let left : Leaves x.entry x.before.buffer x.after.buffer =
    record { before = x.earlier; later = x.later; whole = x.split.whole; free = x.split.free; rest = ap (λ (a : Processor). a.buffer) x.split.rest } in
    let values : (word : ℕ) → values_seen t x.after word ≡ values_seen s x.before word =
    λ word. ap (λ (m : Memory). unwrap_or (forward_of x.after.buffer word) (coherent m word)) (entry_arrives s.memory t.memory x.entry x.arrived) ∙ leaving_values x.entry x.before.buffer x.after.buffer s.memory word left in
    record {
      after = x.after;
      only = x.alone.processors ∙ ap (λ (cpus : List Processor). slice_set cpus p x.after) only ∙ one.1 x.after;
      shape = x.alone.shape;
      restarts = ap restart_of x.split.rest ∙ ap restart_of one.0;
      events_are = λ n.
          ap (λ (y : Seen). events_of y ++ events_alone n t x.after) x.shown
          ∙ same_events n t.shape s.shape (program_of x.after) (program_of x.before) (cpu_of x.after) (cpu_of x.before) (values_seen t x.after) (values_seen s x.before) x.alone.shape
          (ap program_of x.split.rest) (ap cpu_of x.split.rest) values
          ∙ ap (λ (b : Processor). events_alone n s b) one.0;
    }
one_goes s t c (Persist line) seen sound only crash e =
    let x = persist_only s t line seen e in
    let change : Change s.memory t.memory = persists line x.word x.value (persisting_always line s.memory t.memory x.word x.value x.before x.later x.split) in
    record {
      after = c;
      only = x.alone.processors ∙ only;
      shape = x.alone.shape;
      restarts = refl;
      events_are = λ n. ap (λ (y : Seen). events_of y ++ events_alone n t c) x.shown ∙ change_events n s t c (sound_whole s sound) x.alone.shape change;
    }
one_goes s t c Settle seen sound only crash e =
    let x = settle_only s t seen e in
    let change : Change s.memory t.memory = settles x.line (settling_always x.line s.memory t.memory x.before x.later x.split) in
    record {
      after = c;
      only = x.alone.processors ∙ only;
      shape = x.alone.shape;
      restarts = refl;
      events_are = λ n. ap (λ (y : Seen). events_of y ++ events_alone n t c) x.shown ∙ change_events n s t c (sound_whole s sound) x.alone.shape change;
    }
one_goes s t c Crash seen sound only crash e = absurd (true≢false crash)

-- what a run did is what its instructions do alone
pub runs_as_alone : (steps : List Step) (s t : State) (c : Processor) (events : List Event) → IsSound s → s.processors ≡ c ∷ [] → Shows s steps events t → events ≡ events_alone (runs_in steps) s c
runs_as_alone [] s t c events sound only (none, same) = none
runs_as_alone (step ∷ steps) s t c events sound only (seen, mid, more, crash, e, all, shows) =
    let x = one_goes s mid c step seen sound only crash e in
    all ∙ ap (λ (xs : List Event). events_of seen ++ xs) (runs_as_alone steps mid t x.after more (step_sound s mid step seen sound e) x.only shows) ∙ x.events_are (runs_in steps)

-- ---- a program that ends

-- any number of instructions do a beginning of what a program does that ends
pub begins : (most n : ℕ) (shape : List ℕ) (program : List Instr) (c : Cpu) (values : Values) → ends_within most shape program c values ≡ true
    → (rest : List Event) × (events_within most shape program c values ≡ events_within n shape program c values ++ rest)
begins most zero shape program c values ends = (events_within most shape program c values, refl)
begins zero (suc n) shape program c values ends = by (next_instruction program c) ends
  where
    by : (o : Option Instr) → is_none o ≡ true → (rest : List Event) × ([] ≡ option_map_or (λ i. events_shown (done_by i shape c values).0 ++ events_within n shape program (done_by i shape c values).1 (values_after (done_by i shape c values).0 values)) o [] ++ rest)
    by None e = ([], refl)
    by (Some instr) e = absurd (true≢false (sym e))
begins (suc most) (suc n) shape program c values ends = by (next_instruction program c) ends
    (λ instr here. begins most n shape program (done_by instr shape c values).1 (values_after (done_by instr shape c values).0 values) here)
  where
    by : (o : Option Instr) → option_map_or (λ i. ends_within most shape program (done_by i shape c values).1 (values_after (done_by i shape c values).0 values)) o true ≡ true
        → ((instr : Instr) → ends_within most shape program (done_by instr shape c values).1 (values_after (done_by instr shape c values).0 values) ≡ true
        → (rest : List Event) × (events_within most shape program (done_by instr shape c values).1 (values_after (done_by instr shape c values).0 values) ≡ events_within n shape program (done_by instr shape c values).1 (values_after (done_by instr shape c values).0 values) ++ rest))
        → (rest : List Event) × (option_map_or (λ i. events_shown (done_by i shape c values).0 ++ events_within most shape program (done_by i shape c values).1 (values_after (done_by i shape c values).0 values)) o []
        ≡ option_map_or (λ i. events_shown (done_by i shape c values).0 ++ events_within n shape program (done_by i shape c values).1 (values_after (done_by i shape c values).0 values)) o [] ++ rest)
    by None e h = ([], refl)
    by (Some instr) e h =
        let more = h instr e in
        let first = events_shown (done_by instr shape c values).0 in
        (more.0, ap (λ (xs : List Event). first ++ xs) more.1 ∙ sym (append_assoc first (events_within n shape program (done_by instr shape c values).1 (values_after (done_by instr shape c values).0 values)) more.0))

-- ---- the law

pub ends_left : (most : ℕ) (steps : List Step) (s t : State) (c : Processor) (events : List Event) (persisted : List ℕ) → IsSound s → IsAlone s c → ends_alone most s c ≡ true → Shows s steps events t → IsReached t.memory persisted
    → IsLeftAlone most s c persisted
ends_left most steps s t c events persisted sound single ends shows reached =
    let did = runs_as_alone steps s t c events sound single.only shows in
    let all = begins most (runs_in steps) s.shape (program_of c) (cpu_of c) (values_seen s c) ends in
    subst (λ (xs : List Event). IsReachedInOne (fence_memories xs s.memory.persisted) persisted) (ap (λ (xs : List Event). xs ++ all.0) did ∙ sym all.1)
    (machine_left steps s t c events all.0 persisted single shows reached)

pub left_alone : (most : ℕ) (s t : State) (c : Processor) (persisted : List ℕ) → IsSound s → IsAlone s c → ends_alone most s c ≡ true → IsReachable false s t → IsReached t.memory persisted → IsLeftAlone most s c persisted
left_alone most s t c persisted sound single ends reachable reached =
    let (steps, events, shows) = shown_by s t reachable in
    ends_left most steps s t c events persisted sound single ends shows reached

pub left_by_some : (s t : State) (c : Processor) (persisted : List ℕ) → IsSound s → IsAlone s c → IsReachable false s t → IsReached t.memory persisted → (n : ℕ) × IsLeftAlone n s c persisted
left_by_some s t c persisted sound single reachable reached =
    let (steps, events, shows) = shown_by s t reachable in
    let did = runs_as_alone steps s t c events sound single.only shows in (
      runs_in steps,
      subst (λ (xs : List Event). IsReachedInOne (fence_memories xs s.memory.persisted) persisted) (append-nil events ∙ did) (machine_left steps s t c events [] persisted single shows reached),
    )
