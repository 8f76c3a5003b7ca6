-- Steps without the tests of order: as steps where these are accepted, and refused alike for all else.
use Rattle.std.proofs.Common.{◌≡◌, ℕ, false, Option, Some, None, Result, Ok, Err, List, [], remove, refl, sym, ◌∙◌, ap, inl, inr}
use Rattle.std.specs.Prelude.{◌⊎◌, nat_le, slice_get}
use Rattle.std.proofs.lemmas.Bool.{cases_Bool}
use Rattle.outcomes.proofs.PartsOfOutcomes.{answer_of, tested_made}
use Rattle.outcomes.specs.Outcomes.{◌>>=◌, required, refused_as, tested}
use Rattle.store_buffer.specs.declared.entry.Entry.{Entry}
use Rattle.persist_buffer.specs.declared.fault.PendingFault.{PendingFault}
use Rattle.persist_buffer.specs.State.{Memory}
use Rattle.processor.specs.declared.act.Act.{Act}
use Rattle.processor.specs.declared.refusal.Refusal as exec
use Rattle.processor.specs.declared.refusal.Refusal.TheVariants as execs
use Rattle.processor.specs.Contents.{Contents}
use Rattle.processor.specs.Cpus.{Cpu}
use Rattle.processor.specs.Executions.{exec_of}
use Rattle.machine.specs.declared.step.Step.{Step}
use Rattle.machine.specs.declared.step.Step.TheVariants.{Exec, Drain, Persist, Settle, Crash}
use Rattle.machine.specs.declared.step.Seen.{Seen}
use Rattle.machine.specs.declared.step.Seen.TheVariants.{Ran, Left}
use Rattle.machine.specs.declared.refusal.Refusal.{Refusal}
use Rattle.machine.specs.declared.refusal.Refusal.TheVariants.{Spent, NoCpu, Halted, BufferNotEmpty, BufferFull, NoEntry, Held, LineFull, MarkersFull, NoLine, NoPending, BehindMarker, NoMarker, MarkerWaits}
use Rattle.machine.specs.Limits.{max_turns}
use Rattle.machine.specs.Refusals.{of_exec, of_pending}
use Rattle.machine.specs.State.{Processor, State}
use Rattle.machine.specs.Processors.{program_of, cpu_of, contents_of, run_by, receive_of}
use Rattle.machine.specs.Steps.{step_of}
use Rattle.machine.specs.LooseSteps.{is_for_order, run_unwaiting, drain_unheld, turned, exec_unwaiting, drain_unheld_at, unordered, loose_step_of}
use Rattle.machine.proofs.ProcessorSteps.{exec_is, exec_found, exec_done}
use Rattle.machine.proofs.OperationsAreTheInstructions.{IsFenceLike, IsWaited, is_waited, waited_shows, ran}

-- tests

pub exec_unwaiting_tested : (s : State) (p : ℕ) (c : Processor) → slice_get s.processors p ≡ Some c → tested (exec_unwaiting s p) ≡ tested (run_unwaiting s.shape c s.memory)
exec_unwaiting_tested s p c there =
    ap (λ (o : Option Processor). tested {A = Seen × State} (required NoCpu o >>= λ c. run_unwaiting s.shape c s.memory >>= λ done. Ok (Ran p c.place done.0, turned s p done.1))) there
    ∙ tested_made (run_unwaiting s.shape c s.memory) (λ done. (Ran p c.place done.0, turned s p done.1))

pub drain_unheld_tested : (s : State) (p i : ℕ) (c : Processor) → slice_get s.processors p ≡ Some c → tested (drain_unheld_at s p i) ≡ tested (drain_unheld c s.memory i)
drain_unheld_tested s p i c there =
    ap (λ (o : Option Processor). tested {A = Seen × State} (required NoCpu o >>= λ c. drain_unheld c s.memory i >>= λ done. Ok (Left p i done.0, turned s p done.1))) there
    ∙ tested_made (drain_unheld c s.memory i) (λ done. (Left p i done.0, turned s p done.1))

-- an accepted step

unordered_ok : (s : State) (step : Step) (done : Seen × State) → unordered s step (Ok done) ≡ Ok done
unordered_ok s (Exec p) done = refl
unordered_ok s (Drain p i) done = refl
unordered_ok s (Persist line) done = refl
unordered_ok s Settle done = refl
unordered_ok s Crash done = refl

pub accepted_passes : (s t : State) (step : Step) (seen : Seen) → step_of s step ≡ Ok (seen, t) → loose_step_of s step ≡ Ok (seen, t)
accepted_passes s t step seen e = ap (unordered s step) e ∙ unordered_ok s step (seen, t)

-- a refused step that is made without the tests of order was refused for its order

-- the instruction waits, or the entry is held
abbrev pub IsForOrder : Step → Refusal → Type 0
IsForOrder step refusal =
    ((p : ℕ) × (step ≡ Exec p) × (refusal ≡ BufferNotEmpty))
    ⊎ ((p : ℕ) × (i : ℕ) × (holder : ℕ) × (step ≡ Drain p i) × (refusal ≡ Held holder))

for_order : (s : State) (step : Step) (refusal : Refusal) (done : Seen × State) → unordered s step (Err refusal) ≡ Ok done → IsForOrder step refusal
for_order s (Exec p) Spent done e = absurd (cc)
for_order s (Exec p) NoCpu done e = absurd (cc)
for_order s (Exec p) Halted done e = absurd (cc)
for_order s (Exec p) BufferNotEmpty done e = inl (p, refl, refl)
for_order s (Exec p) BufferFull done e = absurd (cc)
for_order s (Exec p) NoEntry done e = absurd (cc)
for_order s (Exec p) (Held holder) done e = absurd (cc)
for_order s (Exec p) LineFull done e = absurd (cc)
for_order s (Exec p) MarkersFull done e = absurd (cc)
for_order s (Exec p) NoLine done e = absurd (cc)
for_order s (Exec p) NoPending done e = absurd (cc)
for_order s (Exec p) BehindMarker done e = absurd (cc)
for_order s (Exec p) NoMarker done e = absurd (cc)
for_order s (Exec p) MarkerWaits done e = absurd (cc)
for_order s (Drain p i) Spent done e = absurd (cc)
for_order s (Drain p i) NoCpu done e = absurd (cc)
for_order s (Drain p i) Halted done e = absurd (cc)
for_order s (Drain p i) BufferNotEmpty done e = absurd (cc)
for_order s (Drain p i) BufferFull done e = absurd (cc)
for_order s (Drain p i) NoEntry done e = absurd (cc)
for_order s (Drain p i) (Held holder) done e = inr (p, i, holder, refl, refl)
for_order s (Drain p i) LineFull done e = absurd (cc)
for_order s (Drain p i) MarkersFull done e = absurd (cc)
for_order s (Drain p i) NoLine done e = absurd (cc)
for_order s (Drain p i) NoPending done e = absurd (cc)
for_order s (Drain p i) BehindMarker done e = absurd (cc)
for_order s (Drain p i) NoMarker done e = absurd (cc)
for_order s (Drain p i) MarkerWaits done e = absurd (cc)
for_order s (Persist line) refusal done e = absurd (cc)
for_order s Settle refusal done e = absurd (cc)
for_order s Crash refusal done e = absurd (cc)

pub passed_for_order : (s t : State) (step : Step) (refusal : Refusal) (seen : Seen) → step_of s step ≡ Err refusal → loose_step_of s step ≡ Ok (seen, t) → IsForOrder step refusal
passed_for_order s t step refusal seen e passed = for_order s step refusal (seen, t) (sym (ap (unordered s step) e) ∙ passed)

-- an instruction that waits

ran_waits : (c : Processor) (did : Result (Act × (Cpu × Contents)) exec.Refusal) → ran c did ≡ Err BufferNotEmpty → did ≡ Err execs.BufferNotEmpty
ran_waits c (Ok done) e = absurd (cc)
ran_waits c (Err execs.Halted) e = absurd (cc)
ran_waits c (Err execs.BufferNotEmpty) e = refl
ran_waits c (Err execs.BufferFull) e = absurd (cc)
ran_waits c (Err execs.LineFull) e = absurd (cc)

found_waits : (s : State) (p : ℕ) (c : Processor) (r : Result (Act × (Processor × Memory)) Refusal) → exec_done s p c r ≡ Err BufferNotEmpty → r ≡ Err BufferNotEmpty
found_waits s p c (Ok done) e = absurd (cc)
found_waits s p c (Err refusal) e = let same : refusal ≡ BufferNotEmpty = cc in ap (λ (x : Refusal). Err x) same

-- the processor whose instruction waits
pub record WaitsThere (s : State) (p : ℕ) : Type 0 where
  pub cpu : Processor
  pub there : slice_get s.processors p ≡ Some cpu
  pub waited : IsWaited (program_of cpu) (cpu_of cpu) (contents_of s.shape cpu.buffer s.memory)

there_waits : (s : State) (p : ℕ) (there : Option Processor) → slice_get s.processors p ≡ there → exec_found s p there ≡ Err BufferNotEmpty → WaitsThere s p
there_waits s p None at e = absurd (cc)
there_waits s p (Some c) at e = record {
  cpu = c;
  there = at;
  waited = is_waited (program_of c) (cpu_of c) (contents_of s.shape c.buffer s.memory) (ran_waits c (exec_of (program_of c) (cpu_of c) (contents_of s.shape c.buffer s.memory)) (found_waits s p c (run_by s.shape c s.memory) e));
}

pub waits_there : (s : State) (p : ℕ) → step_of s (Exec p) ≡ Err BufferNotEmpty → WaitsThere s p
waits_there s p e =
    elim (cases_Bool (nat_le max_turns s.turns)) [
      | inl spent ↦ let refused : ◌≡◌ {A = Result (Seen × State) Refusal} (Err Spent) (Err BufferNotEmpty) = rw spent at e in absurd (cc)
      | inr goes ↦ there_waits s p (slice_get s.processors p) refl (sym (exec_is s p goes) ∙ e)
    ]

-- what it shows without waiting
pub record Unwaited (s : State) (p : ℕ) (c : Processor) (seen : Seen) : Type 0 where
  pub act : Act
  pub shown : seen ≡ Ran p c.place act
  pub fence : IsFenceLike act

abbrev unbuffered : Processor → Act × (Processor × Memory) → Result (Act × (Processor × Memory)) Refusal
unbuffered c done = Ok (done.0, (record done.1.0 { buffer = c.buffer }, done.1.1))

abbrev shown_ran : State → ℕ → Processor → Act × (Processor × Memory) → Result (Seen × State) Refusal
shown_ran s p c done = Ok (Ran p c.place done.0, turned s p done.1)

abbrev pub unwaiting_with : State → ℕ → Processor → Result (Act × (Cpu × Contents)) exec.Refusal → Result (Seen × State) Refusal
unwaiting_with s p c did = (ran (record c { buffer = [] }) did >>= unbuffered c) >>= shown_ran s p c

-- where it is refused without waiting
unwaiting_told : (c : Processor) (did : Result (Act × (Cpu × Contents)) exec.Refusal) (refusal : exec.Refusal) → tested did ≡ Err refusal
    → tested (ran (record c { buffer = [] }) did >>= unbuffered c) ≡ Err (of_exec refusal)
unwaiting_told c (Ok done) refusal e = absurd (cc)
unwaiting_told c (Err other) refusal e = let same : other ≡ refusal = cc in ap (λ (x : exec.Refusal). Err (of_exec x)) same

pub unwaiting_refused : (shape : List ℕ) (c : Processor) (m : Memory) (refusal : exec.Refusal) → tested (exec_of (program_of c) (cpu_of c) (contents_of shape [] m)) ≡ Err refusal
    → tested (run_unwaiting shape c m) ≡ Err (of_exec refusal)
unwaiting_refused shape c m refusal e = unwaiting_told c (exec_of (program_of c) (cpu_of c) (contents_of shape [] m)) refusal e

shown_by : (a b : Seen) (s t : State) → ◌≡◌ {A = Result (Seen × State) Refusal} (Ok (a, s)) (Ok (b, t)) → b ≡ a
shown_by a b s t e = (answer_of a b s t e).0

unwaited_with : (s t : State) (p : ℕ) (c : Processor) (seen : Seen) (did : Result (Act × (Cpu × Contents)) exec.Refusal)
    → exec_of (program_of c) (cpu_of c) (contents_of s.shape [] s.memory) ≡ did → IsWaited (program_of c) (cpu_of c) (contents_of s.shape c.buffer s.memory)
    → unwaiting_with s p c did ≡ Ok (seen, t) → Unwaited s p c seen
unwaited_with s t p c seen (Ok done) is w e = record {
  act = done.0;
  shown = shown_by (Ran p c.place done.0) seen _ t e;
  fence = waited_shows (program_of c) (cpu_of c) done.1.0 (contents_of s.shape c.buffer s.memory) (contents_of s.shape [] s.memory) done.1.1 done.0 refl w is;
}
unwaited_with s t p c seen (Err refusal) is w e = absurd (cc)

abbrev pub exec_unwaiting_found : State → ℕ → Option Processor → Result (Seen × State) Refusal
exec_unwaiting_found s p there = required NoCpu there >>= λ c. run_unwaiting s.shape c s.memory >>= shown_ran s p c

pub unwaited : (s t : State) (p : ℕ) (seen : Seen) (w : WaitsThere s p) → exec_unwaiting s p ≡ Ok (seen, t) → Unwaited s p w.cpu seen
unwaited s t p seen w e =
    unwaited_with s t p w.cpu seen (exec_of (program_of w.cpu) (cpu_of w.cpu) (contents_of s.shape [] s.memory)) refl w.waited
    (sym (ap (exec_unwaiting_found s p) w.there) ∙ e)

-- an entry that is held

abbrev drained : Processor → ℕ → Entry → Memory → Result (Entry × (Processor × Memory)) Refusal
drained c i entry after = Ok (entry, (record c { buffer = remove c.buffer i }, after))

abbrev shown_left : State → ℕ → ℕ → Entry × (Processor × Memory) → Result (Seen × State) Refusal
shown_left s p i done = Ok (Left p i done.0, turned s p done.1)

abbrev pub unheld_with : State → ℕ → ℕ → Processor → Entry → Result Memory PendingFault → Result (Seen × State) Refusal
unheld_with s p i c entry received = (refused_as of_pending received >>= drained c i entry) >>= shown_left s p i

shows_with : (s t : State) (p i : ℕ) (c : Processor) (entry : Entry) (seen : Seen) (received : Result Memory PendingFault) → unheld_with s p i c entry received ≡ Ok (seen, t) → seen ≡ Left p i entry
shows_with s t p i c entry seen (Ok after) e = shown_by (Left p i entry) seen _ t e
shows_with s t p i c entry seen (Err fault) e = absurd (cc)

abbrev pub drain_unheld_found : State → ℕ → ℕ → Option Processor → Result (Seen × State) Refusal
drain_unheld_found s p i there = required NoCpu there >>= λ c. drain_unheld c s.memory i >>= shown_left s p i

abbrev pub drain_entry_found : State → ℕ → ℕ → Processor → Option Entry → Result (Seen × State) Refusal
drain_entry_found s p i c there = (required NoEntry there >>= λ entry. refused_as of_pending (receive_of s.memory entry) >>= drained c i entry) >>= shown_left s p i

pub unheld_shows : (s t : State) (p i : ℕ) (c : Processor) (entry : Entry) (seen : Seen) → slice_get s.processors p ≡ Some c → slice_get c.buffer i ≡ Some entry
    → drain_unheld_at s p i ≡ Ok (seen, t) → seen ≡ Left p i entry
unheld_shows s t p i c entry seen there at e =
    shows_with s t p i c entry seen (receive_of s.memory entry) (sym (ap (drain_entry_found s p i c) at) ∙ sym (ap (drain_unheld_found s p i) there) ∙ e)

-- a step that is refused otherwise
unordered_err : (s : State) (step : Step) (refusal : Refusal) → is_for_order refusal ≡ false → unordered s step (Err refusal) ≡ Err refusal
unordered_err s (Exec p) Spent e = refl
unordered_err s (Exec p) NoCpu e = refl
unordered_err s (Exec p) Halted e = refl
unordered_err s (Exec p) BufferNotEmpty e = absurd (cc (e))
unordered_err s (Exec p) BufferFull e = refl
unordered_err s (Exec p) NoEntry e = refl
unordered_err s (Exec p) (Held holder) e = absurd (cc (e))
unordered_err s (Exec p) LineFull e = refl
unordered_err s (Exec p) MarkersFull e = refl
unordered_err s (Exec p) NoLine e = refl
unordered_err s (Exec p) NoPending e = refl
unordered_err s (Exec p) BehindMarker e = refl
unordered_err s (Exec p) NoMarker e = refl
unordered_err s (Exec p) MarkerWaits e = refl
unordered_err s (Drain p i) Spent e = refl
unordered_err s (Drain p i) NoCpu e = refl
unordered_err s (Drain p i) Halted e = refl
unordered_err s (Drain p i) BufferNotEmpty e = absurd (cc (e))
unordered_err s (Drain p i) BufferFull e = refl
unordered_err s (Drain p i) NoEntry e = refl
unordered_err s (Drain p i) (Held holder) e = absurd (cc (e))
unordered_err s (Drain p i) LineFull e = refl
unordered_err s (Drain p i) MarkersFull e = refl
unordered_err s (Drain p i) NoLine e = refl
unordered_err s (Drain p i) NoPending e = refl
unordered_err s (Drain p i) BehindMarker e = refl
unordered_err s (Drain p i) NoMarker e = refl
unordered_err s (Drain p i) MarkerWaits e = refl
unordered_err s (Persist line) refusal e = refl
unordered_err s Settle refusal e = refl
unordered_err s Crash refusal e = refl

pub refused_passes : (s : State) (step : Step) (refusal : Refusal) → step_of s step ≡ Err refusal → is_for_order refusal ≡ false → loose_step_of s step ≡ Err refusal
refused_passes s step refusal e other = ap (unordered s step) e ∙ unordered_err s step refusal other
