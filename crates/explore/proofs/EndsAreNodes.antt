-- An end is a node whose processors have ended, with all that is pending persisted.
use Rattle.std.proofs.Common.{◌≡◌, ℕ, zero, suc, ◌+◌, ◌≤◌, Bool, true, false, Option, Some, None, Result, Ok, Err, List, [], ◌∷◌, ◌++◌, map, length, unwrap_or, refl, sym, ap, ap₂, subst, ◌∙◌, arith, true≢false}
use Rattle.std.proofs.lemmas.Bool.{and_parts, eqb-true}
use Rattle.std.proofs.lemmas.Grind.{same_number_lists}
use Rattle.std.specs.Prelude.{◌&&◌, ◌||◌, ◌==◌, Contains, is_none, not, slice_get, slice_index, slice_set}
use Rattle.std.specs.List.{list_all, list_any}
use Rattle.isa.specs.declared.instr.Instr.{Instr}
use Rattle.store_buffer.specs.declared.entry.Entry.{Entry}
use Rattle.store_buffer.specs.declared.entry.Entry.TheVariants.{Sfence}
use Rattle.persist_buffer.specs.declared.entry.PendingEntry.{PendingEntry}
use Rattle.persist_buffer.specs.declared.entry.PendingEntry.TheVariants.{Write, Marker}
use Rattle.persist_buffer.specs.Listings.{LinesBelow}
use Rattle.persist_buffer.specs.Memories.{coherent, value_to}
use Rattle.persist_buffer.specs.State.{Memory}
use Rattle.outcomes.specs.Lists.{newest}
use Rattle.outcomes.specs.Outcomes.{◌>>=◌, refused_as, required}
use Rattle.outcomes.proofs.PartsOfOutcomes.{answer_of}
use Rattle.pending_images.specs.Cuts.{after, written}
use Rattle.processor.specs.declared.act.Act.{Act}
use Rattle.processor.specs.declared.refusal.Refusal as exec
use Rattle.processor.specs.declared.refusal.Refusal.TheVariants as execs
use Rattle.processor.specs.Contents.{Contents}
use Rattle.processor.specs.Cpus.{Cpu}
use Rattle.processor.specs.Executions.{effect_of, exec_of, next_instruction}
use Rattle.machine.specs.declared.refusal.Refusal.{Refusal}
use Rattle.machine.specs.declared.step.Seen.{Seen}
use Rattle.machine.specs.declared.step.Step.{Step}
use Rattle.machine.specs.declared.step.Step.TheVariants.{Exec, Drain, Persist, Settle, Crash}
use Rattle.machine.specs.Limits.{max_turns}
use Rattle.machine.specs.Processors.{contents_of, cpu_of, halted, program_of, restart_of, run_by, with_cpu}
use Rattle.machine.specs.Refusals.{of_exec}
use Rattle.machine.specs.State.{Processor, State}
use Rattle.machine.specs.Steps.{end_after, run_of, step_of}
use Rattle.machine.proofs.CrashKeepsWhatIsPersisted.{processors_after}
use Rattle.machine.proofs.PersistAndSettleStepsSplit.{persist_only, settle_only}
use Rattle.machine.proofs.ProcessorSteps.{drain_only, exec_only}
use Rattle.images.proofs.StepsReach.{lines_within}
use Rattle.pending_images.proofs.CutOfRun.{lines_left}
use Rattle.explore.proofs.CoveredSteps.{sound_whole}
use Rattle.explore.proofs.LaterMemories.{IsWhole}
use Rattle.explore.specs.Ahead.{AreClosedFrom, IsCoveredAhead, IsTried}
use Rattle.explore.specs.Ends.{IsEnd, IsEndOf, all_run_as, has_ended, runs_as}
use Rattle.explore.specs.Reachable.{IsRun, is_crash}
use Rattle.explore.specs.Explored.{IsEndNode, have_ended, whole}
use Rattle.explore.specs.Falls.{step_for}
use Rattle.explore.specs.declared.question.Question.{Question}
use Rattle.explore.specs.Own.{Advance, Advances, HaveGone, leaves, runs}
use Rattle.explore.specs.Sound.{IsSound}
use Rattle.explore.proofs.ClosedAhead.{all_known}
use Rattle.explore.proofs.Visits.{longer_run, path_then}
use Rattle.explore.proofs.FallsAreSteps.{left_by}
use Rattle.explore.proofs.OwnSteps.{no_memory}
use Rattle.explore.proofs.SpeakingFor.{same_coherent}
pub use Rattle.explore.proofs.WrittenValues.{written_long, written_shows}

-- ---- a processor that has ended makes no own step

abbrev did : Processor → Result (Act × (Cpu × Contents)) exec.Refusal → Result (Act × (Processor × Memory)) Refusal
did c r = refused_as of_exec r >>= λ done. Ok (done.0, (with_cpu c done.1.0 done.1.1, done.1.1.memory))

idle_by : (c : Processor) (s : Contents) (found : Option Instr) (x : Act × (Processor × Memory)) → is_none found ≡ true → did c (required execs.Halted found >>= λ i. effect_of i (cpu_of c) s) ≡ Ok x → ⊥
idle_by c s None x none is = absurd (cc)
idle_by c s (Some instr) x none is = true≢false (sym none)

pub halted_runs_nothing : (shape : List ℕ) (c d : Processor) (m n : Memory) (act : Act) → halted c ≡ true → run_by shape c m ≡ Ok (act, (d, n)) → ⊥
halted_runs_nothing shape c d m n act halt e = idle_by c (contents_of shape c.buffer m) (next_instruction (program_of c) (cpu_of c)) (act, (d, n)) halt e

pub not_empty : (b later : List Entry) (e : Entry) → (length b == 0) ≡ true → b ≡ e ∷ later → ⊥
not_empty b later e none is = let zero_long : length b ≡ 0 = eqb-true (length b) 0 none in let long : length b ≡ suc (length later) = ap length is in absurd (omega (arith, zero_long, long))

ended_stays : (locals : Bool) (shape : List ℕ) (c d : Processor) → has_ended c ≡ true → Advance locals shape c d → ⊥
ended_stays locals shape c d end (runs act own rises ran) = halted_runs_nothing shape c d no_memory no_memory act ((and_parts (halted c) (length c.buffer == 0) end).0) (ran no_memory)
ended_stays locals shape c d end (leaves later all is) = not_empty c.buffer later Sfence ((and_parts (halted c) (length c.buffer == 0) end).1) all

gone_nowhere : (locals : Bool) (shape : List ℕ) (n : ℕ) (c d : Processor) → has_ended c ≡ true → Advances locals shape n c d → d ≡ c
gone_nowhere locals shape zero c d end gone = gone
gone_nowhere locals shape (suc n) c d end (mid, first, rest) = absurd (ended_stays locals shape c mid end first)

all_gone_nowhere : (locals : Bool) (shape : List ℕ) (cs ds : List Processor) → list_all has_ended cs ≡ true → HaveGone locals shape cs ds → ds ≡ cs
all_gone_nowhere locals shape [] [] end gone = refl
all_gone_nowhere locals shape [] (d ∷ ds) end gone = absurd gone
all_gone_nowhere locals shape (c ∷ cs) [] end gone = absurd gone
all_gone_nowhere locals shape (c ∷ cs) (d ∷ ds) end gone =
    let both = and_parts (has_ended c) (list_all has_ended cs) end in
    ap₂ (λ (x : Processor) (xs : List Processor). x ∷ xs) (gone_nowhere locals shape gone.0.0 c d both.0 gone.0.1) (all_gone_nowhere locals shape cs ds both.1 gone.1)

-- ---- whether a run has crashed shows in each processor

mode_same : (b : Bool) (c d : Processor) → d.recovering ≡ c.recovering → runs_as b d ≡ runs_as b c
mode_same true c d e = e
mode_same false c d e = ap not e

ran_stays : (c d : Processor) (n : Memory) (act : Act) (r : Result (Act × (Cpu × Contents)) exec.Refusal) → did c r ≡ Ok (act, (d, n)) → d.recovering ≡ c.recovering
ran_stays c d n act (Ok done) e =
    let parts = answer_of done.0 act (with_cpu c done.1.0 done.1.1, done.1.1.memory) (d, n) e in
    ap (λ (p : Processor × Memory). p.0.recovering) parts.1
ran_stays c d n act (Err refusal) e = absurd (cc)

set_mode : (b : Bool) (cpus : List Processor) (p : ℕ) (before after : Processor) → slice_get cpus p ≡ Some before → after.recovering ≡ before.recovering → all_run_as b cpus ≡ true → all_run_as b (slice_set cpus p after) ≡ true
set_mode b [] p before after there same all = all
set_mode b (c ∷ cpus) zero before after there same all =
    let here : before ≡ c = cc in
    let both = and_parts (runs_as b c) (all_run_as b cpus) all in
    rw (mode_same b c after (same ∙ ap (λ (x : Processor). x.recovering) here) ∙ both.0, both.1) refl
set_mode b (c ∷ cpus) (suc p) before after there same all =
    let both = and_parts (runs_as b c) (all_run_as b cpus) all in
    rw (both.0) (set_mode b cpus p before after there same both.1)

restarted_mode : (cpus : List Processor) → all_run_as true (map restart_of cpus) ≡ true
restarted_mode [] = refl
restarted_mode (c ∷ cpus) = restarted_mode cpus

step_mode : (b : Bool) (s t : State) (step : Step) (seen : Seen) → step_of s step ≡ Ok (seen, t) → all_run_as b s.processors ≡ true → all_run_as (is_crash step || b) t.processors ≡ true
step_mode b s t (Exec p) seen e all =
    let x = exec_only s t p seen e in
    let same = ran_stays x.before x.after t.memory x.act (exec_of (program_of x.before) (cpu_of x.before) (contents_of s.shape x.before.buffer s.memory)) x.ran in
    ap (all_run_as b) x.alone.processors ∙ set_mode b s.processors p x.before x.after x.there same all
step_mode b s t (Drain p i) seen e all =
    let x = drain_only s t p i seen e in
    ap (all_run_as b) x.alone.processors ∙ set_mode b s.processors p x.before x.after x.there (ap (λ (c : Processor). c.recovering) x.split.rest) all
step_mode b s t (Persist line) seen e all = ap (all_run_as b) ((persist_only s t line seen e).alone.processors) ∙ all
step_mode b s t Settle seen e all = ap (all_run_as b) ((settle_only s t seen e).alone.processors) ∙ all
step_mode b s t Crash seen e all = ap (all_run_as true) (processors_after s t seen e) ∙ restarted_mode s.processors

or_turned : (x y b : Bool) → (y || (x || b)) ≡ ((x || y) || b)
or_turned true true b = refl
or_turned true false b = refl
or_turned false true b = refl
or_turned false false b = refl

mode_on : (b : Bool) (s : State) (step : Step) (steps : List Step) (r : Result (Seen × State) Refusal) → step_of s step ≡ r → all_run_as b s.processors ≡ true
    → ((t : State) → (run_of steps t).refusal ≡ None → all_run_as (is_crash step || b) t.processors ≡ true → all_run_as (list_any is_crash steps || (is_crash step || b)) (run_of steps t).state.processors ≡ true)
    → (end_after s r (run_of steps)).refusal ≡ None → all_run_as ((is_crash step || list_any is_crash steps) || b) (end_after s r (run_of steps)).state.processors ≡ true
mode_on b s step steps (Ok done) e all each accepted =
    ap (λ (x : Bool). all_run_as x (run_of steps done.1).state.processors) (sym (or_turned (is_crash step) (list_any is_crash steps) b)) ∙ each done.1 accepted (step_mode b s done.1 step done.0 e all)
mode_on b s step steps (Err refusal) e all each accepted = absurd (cc)

run_mode : (b : Bool) (steps : List Step) (s : State) → (run_of steps s).refusal ≡ None → all_run_as b s.processors ≡ true → all_run_as (list_any is_crash steps || b) (run_of steps s).state.processors ≡ true
run_mode b [] s accepted all = all
run_mode b (step ∷ steps) s accepted all = mode_on b s step steps (step_of s step) refl all (λ t. run_mode (is_crash step || b) steps t) accepted

or_none : (x : Bool) → (x || false) ≡ x
or_none true = refl
or_none false = refl

-- from the main programs: after a crash all processors run their recovery programs, and without one none does
pub mode_of_run : (steps : List Step) (start : State) → (run_of steps start).refusal ≡ None → all_run_as false start.processors ≡ true → all_run_as (list_any is_crash steps) (run_of steps start).state.processors ≡ true
mode_of_run steps start accepted fresh = ap (λ (x : Bool). all_run_as x (run_of steps start).state.processors) (sym (or_none (list_any is_crash steps))) ∙ run_mode false steps start accepted fresh

-- ---- an end is a node's

nothing_pending : (m : Memory) (word : ℕ) → m.pending ≡ [] → coherent m word ≡ slice_index m.persisted word
nothing_pending m word none = ap (λ (es : List PendingEntry). unwrap_or (newest (value_to word) es) (slice_index m.persisted word)) none

whole_memory : (r m : Memory) → IsWhole r → length m.persisted ≡ 512 → m.pending ≡ [] → ((word : ℕ) → coherent m word ≡ coherent r word) → m ≡ whole r
whole_memory r m is long none same =
    let values : m.persisted ≡ written r.pending r.persisted =
    same_number_lists m.persisted (written r.pending r.persisted) (long ∙ sym (written_long r.pending r.persisted ∙ is.persisted))
    (λ word within. sym (nothing_pending m word none) ∙ same word ∙ sym (written_shows r.pending r.persisted word is.lines is.persisted)) in
    λ k. record { pending = none k; persisted = values k }

module _ (sets locals : Bool) (question : Question) (nodes : List State) where
  -- the node that a covered end is
  is_node : (recovered : Bool) (t : State) → IsSound t → IsEnd t → all_run_as recovered t.processors ≡ true → ((r : State) → Contains nodes r → IsSound r) → IsCoveredAhead sets locals question nodes t
      → (r : State) × Contains nodes r × IsTried sets locals question nodes r × IsEndNode recovered r t
  is_node recovered t sound end mode sounds (r, there, tried, c) =
      let same : r.processors ≡ t.processors = all_gone_nowhere locals r.shape t.processors r.processors end.processors c.processors in (
        r,
        there,
        tried,
        record {
          ended = ap (λ (cpus : List Processor). list_all has_ended cpus && all_run_as recovered cpus) same ∙ rw (end.processors, mode) refl;
          shape = c.shape;
          processors = sym same;
          memory = whole_memory r.memory t.memory (sound_whole r (sounds r there)) sound.persisted end.pending (same_coherent sets r.memory t.memory c.memory);
        },
      )

  pub ends_are_nodes : (recovered : Bool) (start t : State) → AreClosedFrom sets locals question nodes start → IsEndOf question.crashes recovered start t
      → (r : State) × Contains nodes r × IsTried sets locals question nodes r × IsEndNode recovered r t
  ends_are_nodes recovered start t from is =
      let known = all_known sets locals question nodes from.closed start from t is.reached in
      is_node recovered t known.sound is.end is.mode from.sound_nodes known.covered

-- ---- a node's end is reached

-- steps by which all that is pending is persisted
pub record Empties (s : State) (steps : List Step) : Type 0 where
  pub accepted : (run_of steps s).refusal ≡ None
  pub crashes : list_any is_crash steps ≡ false
  pub shape : (run_of steps s).state.shape ≡ s.shape
  pub processors : (run_of steps s).state.processors ≡ s.processors
  pub memory : (run_of steps s).state.memory ≡ whole s.memory

no_crash_for : (entry : PendingEntry) → is_crash (step_for entry) ≡ false
no_crash_for (Write word value) = refl
no_crash_for (Marker line) = refl

empties_then : (s t : State) (step : Step) (seen : Seen) (steps : List Step) → step_of s step ≡ Ok (seen, t) → is_crash step ≡ false → t.shape ≡ s.shape → t.processors ≡ s.processors → whole t.memory ≡ whole s.memory
    → Empties t steps → Empties s (step ∷ steps)
empties_then s t step seen steps e quiet shape processors memory p = record {
  accepted = rw e p.accepted;
  crashes = rw quiet p.crashes;
  shape = rw e (p.shape ∙ shape);
  processors = rw e (p.processors ∙ processors);
  memory = rw e (p.memory ∙ memory);
}

pub empties : (es : List PendingEntry) (s : State) → s.memory.pending ≡ es → LinesBelow (length s.shape) s.memory.pending → s.turns + length es ≤ max_turns → Empties s (map step_for es)
empties [] s is below room = record {
  accepted = refl;
  crashes = refl;
  shape = refl;
  processors = refl;
  memory = λ k. record { pending = is k; persisted = written (sym is k) s.memory.persisted };
}
empties (e ∷ es) s is below room =
    let t : State = record s { turns = s.turns + 1; memory = record { pending = es; persisted = after e s.memory.persisted } } in
    let made = left_by s [] es e below (omega (arith, room)) is tt in
    let still : LinesBelow (length s.shape) es = lines_left (length s.shape) [] e es (subst (LinesBelow (length s.shape)) is below) in
    empties_then s t (step_for e) _ (map step_for es) made (no_crash_for e) refl refl (λ k. record { pending = []; persisted = written (sym is k) s.memory.persisted }) (empties es t refl still (omega (arith, room)))

pub quiet_too : (crashes : Bool) (steps : List Step) → list_any is_crash steps ≡ false → list_any is_crash steps ≡ true → crashes ≡ true
quiet_too crashes steps quiet any = absurd (true≢false (sym any ∙ quiet))

-- the end of a state that a run reaches, if its processors have ended
pub nodes_are_ends : (crashes recovered : Bool) (start r : State) (path : List Step) → IsSound r → IsRun crashes path start r → have_ended recovered r ≡ true → r.turns + length r.memory.pending ≤ max_turns
    → (t : State) × IsEndOf crashes recovered start t × IsEndNode recovered r t
nodes_are_ends crashes recovered start r path sound ran done room =
    let both = and_parts (list_all has_ended r.processors) (all_run_as recovered r.processors) done in
    let steps = map step_for r.memory.pending in
    let p = empties r.memory.pending r refl (lines_within r sound.within) room in
    let t : State = (run_of steps r).state in (
      t,
      record {
        reached = (path ++ steps, subst (IsRun crashes (path ++ steps) start) ((path_then start r path steps ran.accepted ran.leads).1) (longer_run crashes start r path steps ran (quiet_too crashes steps p.crashes) p.accepted));
        end = record { processors = ap (list_all has_ended) p.processors ∙ both.0; pending = ap (λ (m : Memory). m.pending) p.memory };
        mode = ap (all_run_as recovered) p.processors ∙ both.1;
      },
      record { ended = done; shape = p.shape; processors = p.processors; memory = p.memory },
    )
