-- What crashes leave, one after another, of a machine with one processor.
use Rattle.std.proofs.Common.{◌≡◌, ℕ, Bool, true, false, Ok, List, [], ◌∷◌, ◌++◌, map, refl, sym, ap, subst, ◌∙◌, Contains}
use Rattle.std.proofs.lemmas.List.{append_assoc, append-nil}
use Rattle.persist_buffer.specs.State.{Memory}
use Rattle.pending_images.specs.Changes.{IsReached}
use Rattle.machine.specs.declared.step.Seen.{Seen}
use Rattle.machine.specs.declared.step.Step.{Step}
use Rattle.machine.specs.declared.step.Step.TheVariants.{Exec, Drain, Persist, Settle, Crash}
use Rattle.machine.specs.Processors.{contents_of, cpu_of, program_of, restart_of}
use Rattle.machine.specs.State.{Processor, State}
use Rattle.machine.specs.Steps.{step_of}
use Rattle.machine.proofs.CrashKeepsWhatIsPersisted.{memory_after, processors_after}
use Rattle.machine.proofs.RunIsAPrefix.{step_shape}
use Rattle.processor.specs.Contents.{seen_value}
use Rattle.explore.specs.Explored.{fallen}
use Rattle.explore.specs.Reachable.{IsReachable, is_crash}
use Rattle.explore.specs.Sound.{IsSound}
use Rattle.explore.specs.Alone.{ends_alone, ends_within, events_alone, events_within}
use Rattle.explore.specs.FenceMemories.{IsReachedInOne, fence_memories}
use Rattle.explore.specs.OneProcessor.{IsAlone, IsClosedUnderCrashes, IsLeftAlone}
use Rattle.explore.specs.declared.event.Event.{Event}
use Rattle.explore.proofs.SoundRuns.{step_sound}
use Rattle.explore.proofs.RunsAlone.{ends_left, one_goes}
use Rattle.explore.proofs.Shown.{Comes, Shows, comes_of, events_of}

-- one step more
shows_more : (first : List Step) (s mid u : State) (events : List Event) (step : Step) (seen : Seen) → Shows s first events mid → is_crash step ≡ false → step_of mid step ≡ Ok (seen, u)
    → Shows s (first ++ step ∷ []) (events ++ events_of seen) u
shows_more [] s mid u events step seen (none, same) crash e =
    (seen, u, [], crash, subst (λ (x : State). step_of x step ≡ Ok (seen, u)) same e, ap (λ (xs : List Event). xs ++ events_of seen) none ∙ sym (append-nil (events_of seen)), (refl, refl))
shows_more (one ∷ first) s mid u events step seen (shown, next, more, plain, made, all, shows) crash e =
    (shown, next, more ++ events_of seen, plain, made, ap (λ (xs : List Event). xs ++ events_of seen) all ∙ append_assoc (events_of shown) more (events_of seen), shows_more first next mid u more step seen shows crash e)

-- the only processor after steps without a crash
record StaysAlone (s mid : State) (c : Processor) : Type 0 where
  after : Processor
  only : mid.processors ≡ after ∷ []
  shape : mid.shape ≡ s.shape
  restarts : restart_of after ≡ restart_of c
  sound : IsSound mid

stays_alone : (first : List Step) (s mid : State) (c : Processor) (events : List Event) → IsSound s → s.processors ≡ c ∷ [] → Shows s first events mid → StaysAlone s mid c
stays_alone [] s mid c events sound only (none, same) = record {
  after = c;
  only = ap (λ (x : State). x.processors) same ∙ only;
  shape = ap (λ (x : State). x.shape) same;
  restarts = refl;
  sound = subst IsSound (sym same) sound;
}
stays_alone (step ∷ first) s mid c events sound only (seen, next, more, plain, made, all, shows) =
    let x = one_goes s next c step seen sound only plain made in
    let y = stays_alone first next mid x.after more (step_sound s next step seen sound made) x.only shows in
    record { after = y.after; only = y.only; shape = y.shape ∙ x.shape; restarts = y.restarts ∙ x.restarts; sound = y.sound }

module _ (most : ℕ) (start : State) (c : Processor) (list : List (List ℕ)) (all : IsClosedUnderCrashes most start c list) where
  -- where a program begins: the main one, or the recovery after a crash
  record Begins (s : State) (d : Processor) : Type 0 where
    sound : IsSound s
    single : IsAlone s d
    shape : s.shape ≡ start.shape
    restarts : restart_of d ≡ restart_of c
    ends : ends_alone most s d ≡ true
    left : (persisted : List ℕ) → IsLeftAlone most s d persisted → Contains list persisted

  -- what a crash leaves
  among : (s mid : State) (d : Processor) (first : List Step) (events : List Event) (persisted : List ℕ) → Begins s d → Shows s first events mid → IsReached mid.memory persisted → Contains list persisted
  among s mid d first events persisted b shows reached = b.left persisted (ends_left most first s mid d events persisted b.sound b.single b.ends shows reached)

  -- the recovery begins
  begins_again : (s mid u : State) (d : Processor) (first : List Step) (events : List Event) (seen : Seen) → Begins s d → Shows s first events mid → step_of mid Crash ≡ Ok (seen, u) → Begins u (restart_of c)
  begins_again s mid u d first events seen b shows e =
      let x = stays_alone first s mid d events b.sound b.single.only shows in
      let old : List ℕ = mid.memory.persisted in
      let there : Contains list old = among s mid d first events old b shows (0, mid.memory, refl, refl) in
      let memory : u.memory ≡ record { pending = []; persisted = old } = memory_after mid u seen e in
      let shape : u.shape ≡ start.shape = step_shape mid u Crash seen e ∙ x.shape ∙ b.shape in
      let same : events_alone most u (restart_of c) ≡ events_alone most (fallen start old) (restart_of c) =
      λ k. events_within most (shape k) (program_of (restart_of c)) (cpu_of (restart_of c)) (seen_value (contents_of (shape k) [] (memory k))) in
      let same_end : ends_alone most u (restart_of c) ≡ ends_alone most (fallen start old) (restart_of c) =
      λ k. ends_within most (shape k) (program_of (restart_of c)) (cpu_of (restart_of c)) (seen_value (contents_of (shape k) [] (memory k))) in
      record {
        sound = step_sound mid u Crash seen x.sound e;
        single = record {
          only = processors_after mid u seen e ∙ ap (map restart_of) x.only ∙ ap (λ (p : Processor). p ∷ []) (x.restarts ∙ b.restarts);
          buffer = refl;
          pending = ap (λ (m : Memory). m.pending) memory;
        };
        shape = shape;
        restarts = refl;
        ends = same_end ∙ all.ends_again old there;
        left = λ persisted left. all.left_again old persisted there
            (subst (λ (xs : List Event). IsReachedInOne (fence_memories xs old) persisted) same
            (subst (λ (m : Memory). IsReachedInOne (fence_memories (events_alone most u (restart_of c)) m.persisted) persisted) memory left));
      }

  reaches : (steps : List Step) (s mid t : State) (d : Processor) (first : List Step) (events : List Event) (persisted : List ℕ) → Begins s d → Shows s first events mid → Comes mid steps t → IsReached t.memory persisted → Contains list persisted
  reaches [] s mid t d first events persisted b shows same reached = among s mid d first events persisted b shows (subst (λ (x : State). IsReached x.memory persisted) same reached)
  reaches (Exec p ∷ steps) s mid t d first events persisted b shows (seen, u, e, comes) reached =
      reaches steps s u t d (first ++ Exec p ∷ []) (events ++ events_of seen) persisted b (shows_more first s mid u events (Exec p) seen shows refl e) comes reached
  reaches (Drain p i ∷ steps) s mid t d first events persisted b shows (seen, u, e, comes) reached =
      reaches steps s u t d (first ++ Drain p i ∷ []) (events ++ events_of seen) persisted b (shows_more first s mid u events (Drain p i) seen shows refl e) comes reached
  reaches (Persist line ∷ steps) s mid t d first events persisted b shows (seen, u, e, comes) reached =
      reaches steps s u t d (first ++ Persist line ∷ []) (events ++ events_of seen) persisted b (shows_more first s mid u events (Persist line) seen shows refl e) comes reached
  reaches (Settle ∷ steps) s mid t d first events persisted b shows (seen, u, e, comes) reached =
      reaches steps s u t d (first ++ Settle ∷ []) (events ++ events_of seen) persisted b (shows_more first s mid u events Settle seen shows refl e) comes reached
  reaches (Crash ∷ steps) s mid t d first events persisted b shows (seen, u, e, comes) reached =
      reaches steps u u t (restart_of c) [] [] persisted (begins_again s mid u d first events seen b shows e) (refl, refl) comes reached

  pub all_left : (crashes : Bool) (t : State) (persisted : List ℕ) → IsSound start → IsAlone start c → IsReachable crashes start t → IsReached t.memory persisted → Contains list persisted
  all_left crashes t persisted sound single (steps, run) reached =
      reaches steps start start t c [] [] persisted (record { sound = sound; single = single; shape = refl; restarts = refl; ends = all.ends; left = all.left }) (refl, refl)
      (subst (Comes start steps) run.leads (comes_of steps start run.accepted)) reached
