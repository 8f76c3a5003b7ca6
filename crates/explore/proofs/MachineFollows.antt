-- A machine with one processor makes each run of its straight-line program, unless room or turns lack.
use Rattle.std.proofs.Common.{◌≡◌, ℕ, zero, suc, ◌+◌, ◌<◌, inl, inr, Bool, true, false, Option, Some, None, Result, Ok, List, [], ◌∷◌, ◌++◌, length, refl, sym, ap, subst, ◌∙◌, true≢false, arith, not}
use Rattle.std.specs.Prelude.{◌⊎◌, ◌==◌, ◌&&◌, ◌≤◌, count_by, nat_le, slice_get, slice_set}
use Rattle.std.specs.Option.{option_map_or}
use Rattle.std.proofs.lemmas.Bool.{cases_Bool}
use Rattle.std.proofs.lemmas.Bool.Decides.{nat_tests}
use Rattle.std.proofs.lemmas.List.{append_assoc}
use Rattle.lines_layout.specs.Lines.{word_at, line_of}
use Rattle.outcomes.specs.Outcomes.{◌>>=◌, refuse, refused_as, required}
use Rattle.isa.specs.declared.instr.Access.{Access}
use Rattle.isa.specs.declared.instr.Access.TheVariants as accesses
use Rattle.isa.specs.declared.instr.FenceKind.TheVariants.{Mfence, Sfence}
use Rattle.isa.specs.declared.instr.Instr.{Instr}
use Rattle.isa.specs.declared.instr.Instr.TheVariants as instrs
use Rattle.isa.specs.declared.instr.Next.{Next}
use Rattle.isa.specs.declared.instr.Next.TheVariants.{Following}
use Rattle.isa.specs.declared.register.Regs.{Regs}
use Rattle.isa.specs.Effects.{local_of}
use Rattle.isa.specs.Operands.{address_meant}
use Rattle.store_buffer.specs.declared.entry.Entry.{Entry}
use Rattle.store_buffer.specs.declared.entry.Entry.TheVariants as entries
use Rattle.store_buffer.specs.declared.fault.BufferFault.TheVariants.{Full}
use Rattle.store_buffer.specs.Buffers.{buffer_room, take_of}
use Rattle.store_buffer.proofs.TakingIsASplit.{taking_always}
use Rattle.persist_buffer.specs.declared.entry.PendingEntry.{PendingEntry}
use Rattle.persist_buffer.specs.declared.entry.PendingEntry.TheVariants.{Write, Marker}
use Rattle.persist_buffer.specs.declared.fault.PendingFault.{PendingFault}
use Rattle.persist_buffer.specs.declared.fault.PendingFault.TheVariants as faults
use Rattle.persist_buffer.specs.Limits.{line_room, marker_room}
use Rattle.persist_buffer.specs.Memories.{is_marker, is_write_on, with_pending}
use Rattle.persist_buffer.specs.State.{Memory}
use Rattle.pending_images.specs.Changes.{Change, IsReached, persists, settles}
use Rattle.processor.specs.declared.act.Act.{Act}
use Rattle.processor.specs.declared.act.Act.TheVariants.{Local, Fence, Read, Delay, Locked, Trap}
use Rattle.processor.specs.declared.refusal.Refusal as exec
use Rattle.processor.specs.declared.refusal.Refusal.TheVariants as execs
use Rattle.processor.specs.Accesses.{act_of, is_locked, regs_of, value_read}
use Rattle.processor.specs.Acts.{IsShown}
use Rattle.processor.specs.Contents.{Contents, seen_value}
use Rattle.processor.specs.Cpus.{Cpu, next_cpu, trapped_at}
use Rattle.processor.specs.Executions.{access_of, contents_after, effect_of, next_instruction, waited}
use Rattle.machine.specs.declared.refusal.Refusal.{Refusal}
use Rattle.machine.specs.declared.step.Seen.{Seen}
use Rattle.machine.specs.declared.step.Step.{Step}
use Rattle.machine.specs.declared.step.Step.TheVariants.{Exec, Drain, Persist, Settle}
use Rattle.machine.specs.Limits.{max_turns}
use Rattle.machine.specs.Processors.{contents_of, cpu_of, drain_of, program_of, receive_of, run_by}
use Rattle.machine.specs.Refusals.{of_buffer, of_pending}
use Rattle.machine.specs.State.{Processor, State}
use Rattle.machine.specs.Steps.{step_of}
use Rattle.machine.proofs.PersistAndSettleStepsSplit.{below, persist_always, settle_always}
use Rattle.persist_buffer.proofs.PersistingIsASplit.{persisting_only, settling_only}
use Rattle.persist_buffer.specs.Listings.{LinesBelow}
use Rattle.pending_images.proofs.CutOfRun.{line_there}
use Rattle.images.proofs.StepsReach.{lines_within}
use Rattle.machine.specs.declared.step.Seen.TheVariants.{Left, Persisted, Settled}
use Rattle.machine.proofs.ProcessorSteps.{exec_only, drain_done, drain_found, drain_is, exec_done, exec_found, exec_is}
use Rattle.machine.proofs.ExecShowsAll.{exec_shown}
use Rattle.store_buffer.specs.declared.fault.BufferFault.{BufferFault}
use Rattle.explore.specs.Covering.{grown}
use Rattle.explore.specs.Reachable.{IsReachable, is_crash}
use Rattle.explore.specs.Sound.{IsSound}
use Rattle.explore.specs.Alone.{access_done, done_by, events_alone, events_shown, events_within, value_in, values_after, values_seen}
use Rattle.explore.specs.OneProcessor.{IsAlone, IsLeftAlone, LacksRoom, RunsOutOfRoom, RunsOutOfTurns}
use Rattle.explore.specs.OneProcessor.LacksRoom.{buffer_full, line_full, markers_full}
use Rattle.explore.specs.StraightLine.Transition.{delays, waits, locks, drains, changes}
use Rattle.explore.specs.StraightLine.{Configuration, Transition, Transitions, nothing_pending, pending_of}
use Rattle.explore.specs.declared.event.Event.TheVariants.{Delayed, Waited, LockedWrite}
use Rattle.explore.specs.declared.event.Event.{Event}
use Rattle.explore.proofs.SoundRuns.{step_sound}
use Rattle.explore.proofs.InstructionsAlone.{did, reads}
use Rattle.explore.proofs.Late.{Leaves, leaves_of_take}
use Rattle.explore.proofs.LateListsAreRun.{left_in_one}
use Rattle.explore.proofs.MachineRuns.{entry_arrives, only_one}
use Rattle.explore.proofs.RunsAlone.{GoesOn, one_goes, run_first}
use Rattle.explore.proofs.Shown.{Shows, events_of, reachable_by}

abbrev Outcome : Type 0
Outcome = Result (Act × (Cpu × Contents)) exec.Refusal

-- no room, or no turn is left
abbrev Short : State → Processor → Type 0
Short s c = LacksRoom c.buffer s.memory ⊎ (max_turns ≤ s.turns)

-- Some accepted steps lead to where that is so.
record Lacks (s : State) : Type 0 where
  steps : List Step
  events : List Event
  end : State
  after : Processor
  shows : Shows s steps events end
  only : end.processors ≡ after ∷ []
  short : Short end after

-- Some accepted steps lead to where changes reach these persisted values.
record CanLeave (s : State) (persisted : List ℕ) : Type 0 where
  steps : List Step
  events : List Event
  end : State
  shows : Shows s steps events end
  reached : IsReached end.memory persisted

-- what has to be found empty is
abbrev Ready : Act → List Entry → Type 0
Ready Local b = Unit {0}
Ready Fence b = b ≡ []
Ready (Read word value) b = Unit {0}
Ready (Delay entry) b = Unit {0}
Ready (Locked word value new) b = b ≡ []
Ready (Trap address) b = Unit {0}

module _ (s : Contents) where
  -- this is done, or room lacks
  abbrev Can : Outcome → Act × Cpu → Type 0
  Can r x = ((t : Contents) × ◌≡◌ {A = Outcome} r (Ok (x.0, (x.1, t)))) ⊎ LacksRoom s.buffer s.memory

  pushed : (entry : Entry) (x : Cpu) (full : Bool) → (full ≡ true → LacksRoom s.buffer s.memory)
      → Can ((refused_as (λ f. execs.BufferFull) (refuse Full full >>= λ room. Ok (s.buffer ++ entry ∷ [])) >>= λ buffer. Ok (record s { buffer = buffer })) >>= λ after. Ok (Delay entry, (x, after))) (Delay entry, x)
  pushed entry x true lacks = inr (lacks refl)
  pushed entry x false lacks = inl (record s { buffer = s.buffer ++ entry ∷ [] }, refl)

  written : (word value new : ℕ) (x : Cpu) (full : Bool) → (full ≡ true → LacksRoom s.buffer s.memory)
      → Can ((refused_as (λ f. execs.LineFull) (refuse faults.LineFull full >>= λ room. Ok (with_pending s.memory (s.memory.pending ++ Write word new ∷ []))) >>= λ memory. Ok (record s { memory = memory })) >>= λ after. Ok (Locked word value (Some new), (x, after))) (Locked word value (Some new), x)
  written word value new x true lacks = inr (lacks refl)
  written word value new x false lacks = inl (record s { memory = with_pending s.memory (s.memory.pending ++ Write word new ∷ []) }, refl)

  left : (shows : Act) (x : Cpu) → Can (contents_after shows s >>= λ after. Ok (shows, (x, after))) (shows, x)
  left Local x = inl (s, refl)
  left Fence x = inl (s, refl)
  left (Read word value) x = inl (s, refl)
  left (Delay entry) x = pushed entry x (nat_le buffer_room (length s.buffer)) (λ e. buffer_full (grind (arith, nat_tests, e)))
  left (Locked word value None) x = inl (s, refl)
  left (Locked word value (Some new)) x =
      written word value new x (nat_le line_room (count_by (is_write_on (line_of word)) s.memory.pending)) (λ e. line_full (line_of word) (grind (arith, nat_tests, e)))
  left (Trap address) x = inl (s, refl)

  waited_for : (q : Bool) (r : Outcome) (x : Act × Cpu) → q ≡ false → Can r x → Can (refuse execs.BufferNotEmpty q >>= λ drained. r) x
  waited_for true r x e h = absurd (true≢false e)
  waited_for false r x e h = h

  nothing_there : s.buffer ≡ [] → not (length s.buffer == 0) ≡ false
  nothing_there empty = ap (λ (b : List Entry). not (length b == 0)) empty

  free_of : (access : Access) (word : ℕ) (c : Cpu) → Ready (act_of access word c.regs (value_in access word (seen_value s))) s.buffer → (is_locked access && not (length s.buffer == 0)) ≡ false
  free_of (accesses.Load r) word c ready = refl
  free_of (accesses.Store source) word c ready = refl
  free_of (accesses.Flush kind) word c ready = refl
  free_of (accesses.Locked operation r) word c ready = nothing_there ready

  access_can : (access : Access) (word : ℕ) (c : Cpu) → Ready (act_of access word c.regs (value_in access word (seen_value s))) s.buffer
      → Can (waited (is_locked access) (length s.buffer == 0) (access_of access word c s)) (access_done access word c (seen_value s))
  access_can access word c ready = let free = free_of access word c ready in waited_for (is_locked access && not (length s.buffer == 0)) (access_of access word c s) (access_done access word c (seen_value s)) free
      (subst (λ (value : ℕ). Can (access_of access word c s) (act_of access word c.regs value, next_cpu c Following (regs_of access c.regs value))) (reads s access word free)
      (left (act_of access word c.regs (value_read access word s)) (next_cpu c Following (regs_of access c.regs (value_read access word s)))))

  memory_can : (access : Access) (address : ℕ) (c : Cpu) (o : Option ℕ) → Ready (option_map_or (λ word. access_done access word c (seen_value s)) o (Trap address, trapped_at c address)).0 s.buffer
      → Can (option_map_or (λ word. waited (is_locked access) (length s.buffer == 0) (access_of access word c s)) o (Ok (Trap address, (trapped_at c address, s))))
      (option_map_or (λ word. access_done access word c (seen_value s)) o (Trap address, trapped_at c address))
  memory_can access address c None ready = inl (s, refl)
  memory_can access address c (Some word) ready = access_can access word c ready

  local_can : (c : Cpu) (o : Option (Next × Regs))
      → Can (option_map_or (λ after. Ok (Local, (next_cpu c after.0 after.1, s))) o (Ok (Local, (c, s)))) (option_map_or (λ after. (Local, next_cpu c after.0 after.1)) o (Local, c))
  local_can c None = inl (s, refl)
  local_can c (Some after) = inl (s, refl)

  effect_can : (instr : Instr) (c : Cpu) → Ready (done_by instr s.shape c (seen_value s)).0 s.buffer → Can (effect_of instr c s) (done_by instr s.shape c (seen_value s))
  effect_can (instrs.Memory access operand) c ready = memory_can access (address_meant c.regs operand) c (word_at s.shape (address_meant c.regs operand)) ready
  effect_can (instrs.Fence Mfence) c ready =
      waited_for (not (length s.buffer == 0)) (Ok (Fence, (next_cpu c Following c.regs, s))) (Fence, next_cpu c Following c.regs) (nothing_there ready) (inl (s, refl))
  effect_can (instrs.Fence Sfence) c ready = left (Delay entries.Sfence) (next_cpu c Following c.regs)
  effect_can (instrs.Set r source) c ready = local_can c (local_of (instrs.Set r source) c.regs)
  effect_can (instrs.Compute operation r number) c ready = local_can c (local_of (instrs.Compute operation r number) c.regs)
  effect_can (instrs.Jump kind target) c ready = local_can c (local_of (instrs.Jump kind target) c.regs)
  effect_can instrs.Nop c ready = local_can c (local_of instrs.Nop c.regs)

-- ---- the machine makes a step, or that lacks

abbrev Made : State → Step → Type 0
Made s step = (seen : Seen) × (t : State) × (step_of s step ≡ Ok (seen, t))

exec_in_time : (s : State) (c : Processor) (instr : Instr) → s.processors ≡ c ∷ [] → nat_le max_turns s.turns ≡ false → next_instruction (program_of c) (cpu_of c) ≡ Some instr
    → Ready (done_by instr s.shape (cpu_of c) (values_seen s c)).0 c.buffer → Short s c ⊎ Made s (Exec 0)
exec_in_time s c instr only time next ready =
    let contents : Contents = contents_of s.shape c.buffer s.memory in
    let there : step_of s (Exec 0) ≡ exec_done s 0 c (run_by s.shape c s.memory) = exec_is s 0 time ∙ ap (λ (cpus : List Processor). exec_found s 0 (slice_get cpus 0)) only in
    let ran : run_by s.shape c s.memory ≡ did c (effect_of instr (cpu_of c) contents) =
    ap (λ (o : Option Instr). did c (required execs.Halted o >>= λ i. effect_of i (cpu_of c) contents)) next in
    let found : step_of s (Exec 0) ≡ exec_done s 0 c (did c (effect_of instr (cpu_of c) contents)) = there ∙ ap (exec_done s 0 c) ran in
    elim (effect_can contents instr (cpu_of c) ready) [
      | inl (t, e) ↦ inr (_, _, found ∙ ap (λ (r : Outcome). exec_done s 0 c (did c r)) e)
      | inr lacks ↦ inl (inl lacks)
    ]

in_time : {X : Type 0} (s : State) (c : Processor) → (nat_le max_turns s.turns ≡ false → Short s c ⊎ X) → Short s c ⊎ X
in_time s c h = elim (cases_Bool (nat_le max_turns s.turns)) [
  | inl spent ↦ inl (inr (grind (arith, nat_tests, spent)))
  | inr goes ↦ h goes
]

-- ---- an entry leaves

abbrev Receives : List Entry → Memory → Entry → Type 0
Receives b m entry = ((n : Memory) × (receive_of m entry ≡ Ok n)) ⊎ LacksRoom b m

added : (b : List Entry) (m : Memory) (q : List PendingEntry) (fault : PendingFault) (full : Bool) → (full ≡ true → LacksRoom b m)
    → ((n : Memory) × ((refuse fault full >>= λ room. Ok (with_pending m (m.pending ++ q))) ≡ Ok n)) ⊎ LacksRoom b m
added b m q fault true lacks = inr (lacks refl)
added b m q fault false lacks = inl (with_pending m (m.pending ++ q), refl)

marker_added : (b : List Entry) (m : Memory) (line : ℕ)
    → ((n : Memory) × ((refuse faults.MarkersFull (nat_le marker_room (count_by is_marker m.pending)) >>= λ room. Ok (with_pending m (m.pending ++ Marker line ∷ []))) ≡ Ok n)) ⊎ LacksRoom b m
marker_added b m line = added b m (Marker line ∷ []) faults.MarkersFull (nat_le marker_room (count_by is_marker m.pending)) (λ e. markers_full (grind (arith, nat_tests, e)))

receives : (b : List Entry) (m : Memory) (entry : Entry) → Receives b m entry
receives b m (entries.Write word value) =
    added b m (Write word value ∷ []) faults.LineFull (nat_le line_room (count_by (is_write_on (line_of word)) m.pending)) (λ e. line_full (line_of word) (grind (arith, nat_tests, e)))
receives b m (entries.Flush line) = marker_added b m line
receives b m (entries.FlushOpt line) = marker_added b m line
receives b m entries.Sfence = inl (m, refl)

abbrev took : Processor → Entry × List Entry → Result Memory PendingFault → Result (Entry × (Processor × Memory)) Refusal
took c left received = refused_as of_pending received >>= λ after. Ok (left.0, (record c { buffer = left.1 }, after))

abbrev drained : Processor → Memory → Result (Entry × List Entry) BufferFault → Result (Entry × (Processor × Memory)) Refusal
drained c m taken = refused_as of_buffer taken >>= λ left. took c left (receive_of m left.0)

abbrev Drained : State → Processor → Entry → List Entry → Step → Type 0
Drained s c entry new step = (seen : Seen) × (t : State) × (step_of s step ≡ Ok (seen, t)) × (events_of seen ≡ []) × (t.processors ≡ (record c { buffer = new }) ∷ []) × (t.memory ≡ grown s.memory (pending_of entry))

drain_in_time : (s : State) (c : Processor) (entry : Entry) (new : List Entry) → s.processors ≡ c ∷ [] → nat_le max_turns s.turns ≡ false → (left : Leaves entry c.buffer new)
    → Short s c ⊎ Drained s c entry new (Drain 0 (length left.before))
drain_in_time s c entry new only time left =
    let i = length left.before in
    let taken : take_of c.buffer i ≡ Ok (entry, new) = taking_always c.buffer new i entry left.before left.later (record { whole = left.whole; place = refl; free = left.free; rest = left.rest }) in
    let there : step_of s (Drain 0 i) ≡ drain_done s 0 i (drain_of c s.memory i) = drain_is s 0 i time ∙ ap (λ (cpus : List Processor). drain_found s 0 i (slice_get cpus 0)) only in
    let found : step_of s (Drain 0 i) ≡ drain_done s 0 i (took c (entry, new) (receive_of s.memory entry)) = there ∙ ap (λ (r : Result (Entry × List Entry) BufferFault). drain_done s 0 i (drained c s.memory r)) taken in
    elim (receives c.buffer s.memory entry) [
      | inl (n, e) ↦ inr (
        Left 0 i entry,
        record s { turns = s.turns + 1; processors = slice_set s.processors 0 (record c { buffer = new }); memory = n },
        found ∙ ap (λ (r : Result Memory PendingFault). drain_done s 0 i (took c (entry, new) r)) e,
        refl,
        ap (λ (cpus : List Processor). slice_set cpus 0 (record c { buffer = new })) only,
        entry_arrives s.memory n entry e,
      )
      | inr lacks ↦ inl (inl lacks)
    ]

-- ---- steps that lead to a state of the straight-line program

abbrev at : List Event → List Entry → Memory → Configuration
at events buffer m = record { events = events; buffer = buffer; memory = m }

record Follows (s : State) (goal : Configuration) : Type 0 where
  steps : List Step
  shown : List Event
  end : State
  after : Processor
  shows : Shows s steps shown end
  only : end.processors ≡ after ∷ []
  sound : IsSound end
  most : ℕ
  events_are : events_alone most end after ≡ goal.events
  buffer : after.buffer ≡ goal.buffer
  memory : end.memory ≡ goal.memory

prepend : (s t : State) (step : Step) (seen : Seen) (goal : Configuration) → is_crash step ≡ false → step_of s step ≡ Ok (seen, t) → Lacks t ⊎ Follows t goal → Lacks s ⊎ Follows s goal
prepend s t step seen goal plain e (inl h) = inl (record { steps = step ∷ h.steps; events = events_of seen ++ h.events; end = h.end; after = h.after; shows = (seen, t, h.events, plain, e, refl, h.shows); only = h.only; short = h.short })
prepend s t step seen goal plain e (inr h) = inr (record {
  steps = step ∷ h.steps;
  shown = events_of seen ++ h.shown;
  end = h.end;
  after = h.after;
  shows = (seen, t, h.shown, plain, e, refl, h.shows);
  only = h.only;
  sound = h.sound;
  most = h.most;
  events_are = h.events_are;
  buffer = h.buffer;
  memory = h.memory;
})

lacks_here : (s : State) (c : Processor) → s.processors ≡ c ∷ [] → Short s c → Lacks s
lacks_here s c only short = record { steps = []; events = []; end = s; after = c; shows = (refl, refl); only = only; short = short }

-- one step is enough
stops : (s t : State) (c : Processor) (step : Step) (seen : Seen) (goal : Configuration) (n : ℕ) → is_crash step ≡ false → step_of s step ≡ Ok (seen, t) → IsSound s → (g : GoesOn s t c step seen)
    → events_alone n t g.after ≡ goal.events → g.after.buffer ≡ goal.buffer → t.memory ≡ goal.memory → Follows s goal
stops s t c step seen goal n plain e sound g events_are buffer memory = record {
  steps = step ∷ [];
  shown = events_of seen ++ [];
  end = t;
  after = g.after;
  shows = (seen, t, [], plain, e, refl, (refl, refl));
  only = g.only;
  sound = step_sound s t step seen sound e;
  most = n;
  events_are = events_are;
  buffer = buffer;
  memory = memory;
}

-- ---- an instruction that makes an event, past those that make none

abbrev is_waiting : Event → Bool
is_waiting (Delayed entry) = false
is_waiting Waited = true
is_waiting (LockedWrite word value) = true

abbrev after_event : Event → List Event → List Entry → Memory → Configuration
after_event (Delayed entry) events b m = at events (b ++ entry ∷ []) m
after_event Waited events b m = at events b m
after_event (LockedWrite word value) events b m = at events b (grown m (Write word value ∷ []))

first_event : (x event : Event) (more events : List Event) → x ∷ more ≡ event ∷ events → (event ≡ x) × (more ≡ events)
first_event x event more events e = let head : x ≡ event = cc in let tail : more ≡ events = cc in (sym head, tail)

ready_of : (act : Act) (b : List Entry) (more events : List Event) (event : Event) → events_shown act ++ more ≡ event ∷ events → (is_waiting event ≡ true → b ≡ []) → Ready act b
ready_of Local b more events event e h = tt
ready_of Fence b more events event e h = h (ap is_waiting (first_event Waited event more events e).0)
ready_of (Read word value) b more events event e h = tt
ready_of (Delay entry) b more events event e h = tt
ready_of (Locked word value None) b more events event e h = h (ap is_waiting (first_event Waited event more events e).0)
ready_of (Locked word value (Some new)) b more events event e h = h (ap is_waiting (first_event (LockedWrite word new) event more events e).0)
ready_of (Trap address) b more events event e h = tt

-- what an accepted instruction showed
record Showed (s t : State) (c d : Processor) (seen : Seen) : Type 0 where
  act : Act
  events : events_of seen ≡ events_shown act
  shown : IsShown act (contents_of s.shape c.buffer s.memory) (contents_of s.shape d.buffer t.memory)

showed : (s t : State) (c : Processor) (seen : Seen) → s.processors ≡ c ∷ [] → step_of s (Exec 0) ≡ Ok (seen, t) → (g : GoesOn s t c (Exec 0) seen) → Showed s t c g.after seen
showed s t c seen only e g =
    let x = exec_only s t 0 seen e in
    let one = only_one c x.before 0 (ap (λ (cpus : List Processor). slice_get cpus 0) (sym only) ∙ x.there) in
    let both : x.after ∷ [] ≡ g.after ∷ [] = sym (x.alone.processors ∙ ap (λ (cpus : List Processor). slice_set cpus 0 x.after) only) ∙ g.only in
    let same : x.after ≡ g.after = cc in
    record {
      act = x.act;
      events = ap events_of x.shown;
      shown = subst (λ (d : Processor). IsShown x.act (contents_of s.shape c.buffer s.memory) (contents_of s.shape d.buffer t.memory)) same
          (subst (λ (b : Processor). IsShown x.act (contents_of s.shape b.buffer s.memory) (contents_of s.shape x.after.buffer t.memory)) one.0 (exec_shown s.shape x.before x.after s.memory t.memory x.act x.ran));
    }

module _ (s t : State) (c : Processor) (seen : Seen) (sound : IsSound s) (e : step_of s (Exec 0) ≡ Ok (seen, t)) (g : GoesOn s t c (Exec 0) seen) (n : ℕ) (event : Event) (events : List Event) where
  -- what is left to do after an instruction that did nothing
  abbrev Again : Type 0
  Again = events_alone n t g.after ≡ event ∷ events → (is_waiting event ≡ true → g.after.buffer ≡ []) → Lacks t ⊎ Follows t (after_event event events g.after.buffer t.memory)

  abbrev Goal : Type 0
  Goal = Lacks s ⊎ Follows s (after_event event events c.buffer s.memory)

  silent : Again → (is_waiting event ≡ true → c.buffer ≡ []) → contents_of s.shape g.after.buffer t.memory ≡ contents_of s.shape c.buffer s.memory → events_alone n t g.after ≡ event ∷ events → Goal
  silent again empty same rest =
      let buffer : g.after.buffer ≡ c.buffer = ap (λ (x : Contents). x.buffer) same in
      let memory : t.memory ≡ s.memory = ap (λ (x : Contents). x.memory) same in
      subst (λ (goal : Configuration). Lacks s ⊎ Follows s goal) (λ k. after_event event events (buffer k) (memory k))
      (prepend s t (Exec 0) seen (after_event event events g.after.buffer t.memory) refl e (again rest (λ w. buffer ∙ empty w)))

  does : (x : Event) → x ∷ events_alone n t g.after ≡ event ∷ events → g.after.buffer ≡ (after_event x events c.buffer s.memory).buffer → t.memory ≡ (after_event x events c.buffer s.memory).memory
      → (after_event x events c.buffer s.memory).events ≡ events → Goal
  does x heads buffer memory all =
      let both = first_event x event (events_alone n t g.after) events heads in
      inr (subst (λ (y : Event). Follows s (after_event y events c.buffer s.memory)) (sym both.0)
      (stops s t c (Exec 0) seen (after_event x events c.buffer s.memory) n refl e sound g (both.1 ∙ sym all) buffer memory))

  by_act : Again → (is_waiting event ≡ true → c.buffer ≡ []) → (act : Act) → IsShown act (contents_of s.shape c.buffer s.memory) (contents_of s.shape g.after.buffer t.memory)
      → events_shown act ++ events_alone n t g.after ≡ event ∷ events → Goal
  by_act again empty Local shown heads = silent again empty shown heads
  by_act again empty Fence shown heads = does Waited heads (ap (λ (x : Contents). x.buffer) shown.1) (ap (λ (x : Contents). x.memory) shown.1) refl
  by_act again empty (Read word value) shown heads = silent again empty shown.1 heads
  by_act again empty (Delay entry) shown heads = does (Delayed entry) heads shown.buffer shown.memory refl
  by_act again empty (Locked word value None) shown heads = does Waited heads (ap (λ (x : Contents). x.buffer) shown.2) (ap (λ (x : Contents). x.memory) shown.2) refl
  by_act again empty (Locked word value (Some new)) shown heads =
      does (LockedWrite word new) heads shown.2.buffer (λ k. record { pending = shown.2.pending k; persisted = shown.2.persisted k }) refl
  by_act again empty (Trap address) shown heads = silent again empty shown.1 heads

makes_event : (n : ℕ) (s : State) (c : Processor) (event : Event) (events : List Event) → IsSound s → s.processors ≡ c ∷ [] → events_alone n s c ≡ event ∷ events → (is_waiting event ≡ true → c.buffer ≡ [])
    → Lacks s ⊎ Follows s (after_event event events c.buffer s.memory)
makes_event zero s c event events sound only events_are empty = absurd (cc)
makes_event (suc n) s c event events sound only events_are empty = by (next_instruction (program_of c) (cpu_of c)) refl (λ t d k. makes_event n t d event events k)
  where
    made : (seen : Seen) (t : State) → step_of s (Exec 0) ≡ Ok (seen, t) → ((x : State) (d : Processor) → IsSound x → x.processors ≡ d ∷ [] → events_alone n x d ≡ event ∷ events → (is_waiting event ≡ true → d.buffer ≡ []) → Lacks x ⊎ Follows x (after_event event events d.buffer x.memory))
        → Lacks s ⊎ Follows s (after_event event events c.buffer s.memory)
    made seen t e again =
        let g = one_goes s t c (Exec 0) seen sound only refl e in
        let x = showed s t c seen only e g in
        by_act s t c seen sound e g n event events (again t g.after (step_sound s t (Exec 0) seen sound e) g.only) empty x.act x.shown
        (ap (λ (xs : List Event). xs ++ events_alone n t g.after) (sym x.events) ∙ g.events_are n ∙ events_are)

    by : (o : Option Instr) → next_instruction (program_of c) (cpu_of c) ≡ o
        → ((x : State) (d : Processor) → IsSound x → x.processors ≡ d ∷ [] → events_alone n x d ≡ event ∷ events → (is_waiting event ≡ true → d.buffer ≡ []) → Lacks x ⊎ Follows x (after_event event events d.buffer x.memory))
        → Lacks s ⊎ Follows s (after_event event events c.buffer s.memory)
    by None next again =
        let none : events_alone (suc n) s c ≡ [] = ap (λ (o : Option Instr). option_map_or (λ i. events_shown (done_by i s.shape (cpu_of c) (values_seen s c)).0 ++ events_within n s.shape (program_of c) (done_by i s.shape (cpu_of c) (values_seen s c)).1 (values_after (done_by i s.shape (cpu_of c) (values_seen s c)).0 (values_seen s c))) o []) next in
        absurd (cc)
    by (Some instr) next again =
        let done = done_by instr s.shape (cpu_of c) (values_seen s c) in
        let heads = sym (run_first n s.shape (program_of c) (cpu_of c) (values_seen s c) instr next) ∙ events_are in
        elim (in_time s c (λ time. exec_in_time s c instr only time next (ready_of done.0 c.buffer (events_within n s.shape (program_of c) done.1 (values_after done.0 (values_seen s c))) events event heads empty))) [
          | inl short ↦ inl (lacks_here s c only short)
          | inr (seen, t, e) ↦ made seen t e again
        ]

-- ---- a step of the straight-line program

change_follows : (n : ℕ) (s : State) (c : Processor) (m : Memory) → IsSound s → s.processors ≡ c ∷ [] → s.turns < max_turns → Change s.memory m → Follows s (at (events_alone n s c) c.buffer m)
change_follows n s c m sound only time (persists line word value e) =
    let (before, later, split) = persisting_only line s.memory m word value e in
    let inside : line_of word < length s.shape = line_there (length s.shape) before word value later (subst (LinesBelow (length s.shape)) split.whole (lines_within s sound.within)) in
    let on = split.on_line in
    let t : State = record s { turns = s.turns + 1; memory = m } in
    let made : step_of s (Persist line) ≡ Ok (Persisted word value, t) = persist_always s t line (Persisted word value) (record {
      word = word;
      value = value;
      before = before;
      later = later;
      turn_left = time;
      there = omega (arith, inside, on);
      split = split;
      shown = refl;
      alone = record { turns = refl; crashes = refl; shape = refl; processors = refl };
    }) in
    let g = one_goes s t c (Persist line) (Persisted word value) sound only refl made in
    let both : g.after ∷ [] ≡ c ∷ [] = sym g.only ∙ only in
    let same : g.after ≡ c = cc in
    stops s t c (Persist line) (Persisted word value) (at (events_alone n s c) c.buffer m) n refl made sound g (g.events_are n) (ap (λ (d : Processor). d.buffer) same) refl
change_follows n s c m sound only time (settles line e) =
    let (before, later, split) = settling_only s.memory m line e in
    let t : State = record s { turns = s.turns + 1; memory = m } in
    let made : step_of s Settle ≡ Ok (Settled line, t) = settle_always s t (Settled line) (record {
      line = line;
      before = before;
      later = later;
      turn_left = time;
      split = split;
      shown = refl;
      alone = record { turns = refl; crashes = refl; shape = refl; processors = refl };
    }) in
    let g = one_goes s t c Settle (Settled line) sound only refl made in
    let both : g.after ∷ [] ≡ c ∷ [] = sym g.only ∙ only in
    let same : g.after ≡ c = cc in
    stops s t c Settle (Settled line) (at (events_alone n s c) c.buffer m) n refl made sound g (g.events_are n) (ap (λ (d : Processor). d.buffer) same) refl

drain_follows : (n : ℕ) (s : State) (c : Processor) (entry : Entry) (new : List Entry) (i : ℕ) → IsSound s → s.processors ≡ c ∷ [] → Drained s c entry new (Drain 0 i) → Follows s (at (events_alone n s c) new (grown s.memory (pending_of entry)))
drain_follows n s c entry new i sound only (seen, t, e, none, processors, memory) =
    let g = one_goes s t c (Drain 0 i) seen sound only refl e in
    let both : g.after ∷ [] ≡ (record c { buffer = new }) ∷ [] = sym g.only ∙ processors in
    let same : g.after ≡ record c { buffer = new } = cc in
    stops s t c (Drain 0 i) seen (at (events_alone n s c) new (grown s.memory (pending_of entry))) n refl e sound g
    (ap (λ (xs : List Event). xs ++ events_alone n t g.after) (sym none) ∙ g.events_are n) (ap (λ (d : Processor). d.buffer) same) memory

goes_follows : (n : ℕ) (s : State) (c : Processor) (mid : Configuration) → IsSound s → s.processors ≡ c ∷ [] → Transition (at (events_alone n s c) c.buffer s.memory) mid → Lacks s ⊎ Follows s mid
goes_follows n s c mid sound only (delays entry events doing is) =
    subst (λ (goal : Configuration). Lacks s ⊎ Follows s goal) (sym is) (makes_event n s c (Delayed entry) events sound only doing (λ w. absurd (true≢false (sym w))))
goes_follows n s c mid sound only (waits events doing empty is) =
    subst (λ (goal : Configuration). Lacks s ⊎ Follows s goal) ((λ k. at events (empty k) s.memory) ∙ sym is) (makes_event n s c Waited events sound only doing (λ w. empty))
goes_follows n s c mid sound only (locks word value events doing empty is) =
    subst (λ (goal : Configuration). Lacks s ⊎ Follows s goal) ((λ k. at events (empty k) (grown s.memory (Write word value ∷ []))) ∙ sym is) (makes_event n s c (LockedWrite word value) events sound only doing (λ w. empty))
goes_follows n s c mid sound only (drains i entry new taken is) =
    let left = leaves_of_take c.buffer new i entry taken in
    subst (λ (goal : Configuration). Lacks s ⊎ Follows s goal) (sym is) (elim (in_time s c (λ time. drain_in_time s c entry new only time left)) [
      | inl short ↦ inl (lacks_here s c only short)
      | inr drained ↦ inr (drain_follows n s c entry new (length left.before) sound only drained)
    ])
goes_follows n s c mid sound only (changes memory change is) =
    subst (λ (goal : Configuration). Lacks s ⊎ Follows s goal) (sym is) (elim (in_time s c (λ time. inr (change_follows n s c memory sound only (below s.turns max_turns time) change))) [
      | inl short ↦ inl (lacks_here s c only short)
      | inr follows ↦ inr follows
    ])

-- ---- a run of it

shows_join : (xs ys : List Step) (s mid t : State) (front back : List Event) → Shows s xs front mid → Shows mid ys back t → Shows s (xs ++ ys) (front ++ back) t
shows_join [] ys s mid t front back (none, same) later = subst (λ (x : State). Shows x ys (front ++ back) t) same (subst (λ (events : List Event). Shows mid ys events t) (ap (λ (events : List Event). events ++ back) (sym none)) later)
shows_join (x ∷ xs) ys s mid t front back (seen, next, more, plain, e, all, shows) later =
    (seen, next, more ++ back, plain, e, ap (λ (events : List Event). events ++ back) all ∙ append_assoc (events_of seen) more back, shows_join xs ys next mid t more back shows later)

run_follows : (k n : ℕ) (s : State) (c : Processor) (end : Configuration) (persisted : List ℕ) → IsSound s → s.processors ≡ c ∷ [] → Transitions k (at (events_alone n s c) c.buffer s.memory) end → IsReached end.memory persisted
    → Lacks s ⊎ CanLeave s persisted
run_follows zero n s c end persisted sound only same reached =
    inr (record { steps = []; events = []; end = s; shows = (refl, refl); reached = subst (λ (x : Configuration). IsReached x.memory persisted) same reached })
run_follows (suc k) n s c end persisted sound only (mid, goes, run) reached = elim (goes_follows n s c mid sound only goes) [
  | inl lacks ↦ inl lacks
  | inr f ↦
      let here : mid ≡ at (events_alone f.most f.end f.after) f.after.buffer f.end.memory = λ i. record { events = sym f.events_are i; buffer = sym f.buffer i; memory = sym f.memory i } in
      joined f (run_follows k f.most f.end f.after end persisted f.sound f.only (subst (λ (x : Configuration). Transitions k x end) here run) reached)
]
  where
    joined : (f : Follows s mid) → Lacks f.end ⊎ CanLeave f.end persisted → Lacks s ⊎ CanLeave s persisted
    joined f (inl h) = inl (record { steps = f.steps ++ h.steps; events = f.shown ++ h.events; end = h.end; after = h.after; shows = shows_join f.steps h.steps s f.end h.end f.shown h.events f.shows h.shows; only = h.only; short = h.short })
    joined f (inr h) = inr (record { steps = f.steps ++ h.steps; events = f.shown ++ h.events; end = h.end; shows = shows_join f.steps h.steps s f.end h.end f.shown h.events f.shows h.shows; reached = h.reached })

pub machine_can_leave : (n : ℕ) (s : State) (c : Processor) (persisted : List ℕ) → IsSound s → IsAlone s c → IsLeftAlone n s c persisted
    → (RunsOutOfRoom s) ⊎ (RunsOutOfTurns s) ⊎ ((t : State) × IsReachable false s t × IsReached t.memory persisted)
machine_can_leave n s c persisted sound single reached =
    let (k, end, run, left) = (left_in_one (events_alone n s c) s.memory.persisted persisted).1 reached in
    let memory : nothing_pending s.memory.persisted ≡ s.memory = λ i. record { pending = sym single.pending i; persisted = s.memory.persisted } in
    elim (run_follows k n s c end persisted sound single.only
    (subst (λ (b : List Entry). Transitions k (at (events_alone n s c) b s.memory) end) (sym single.buffer) (subst (λ (m : Memory). Transitions k (at (events_alone n s c) [] m) end) memory run)) left) [
      | inl h ↦ elim h.short [
        | inl full ↦ inl (record { state = h.end; processor = h.after; reached = reachable_by h.steps s h.end h.events h.shows; only = h.only; full = full })
        | inr spent ↦ inr (inl (h.end, reachable_by h.steps s h.end h.events h.shows, spent))
      ]
      | inr h ↦ inr (inr (h.end, reachable_by h.steps s h.end h.events h.shows, h.reached))
    ]
