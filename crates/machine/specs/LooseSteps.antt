-- Steps without the two tests of order: an mfence or a locked operation does not wait until its store buffer is empty, and an
-- entry leaves although an earlier one holds it. Every other refusal stays, in its order.
use Rattle.std.specs.Prelude.{◌≡◌, ℕ, ◌+◌, Bool, true, false, Some, Result, Ok, Err, List, [], ◌∷◌, remove, slice_get, slice_set}
use Rattle.outcomes.specs.Outcomes.{◌>>=◌, required, refused_as}
use Rattle.store_buffer.specs.declared.entry.Entry.{Entry}
use Rattle.persist_buffer.specs.State.{Memory}
use Rattle.processor.specs.declared.act.Act.{Act}
use Rattle.machine.specs.declared.step.Step.{Step}
use Rattle.machine.specs.declared.step.Step.TheVariants.{Exec, Drain}
use Rattle.machine.specs.declared.step.Seen.{Seen}
use Rattle.machine.specs.declared.step.Seen.TheVariants.{Ran, Left}
use Rattle.machine.specs.declared.refusal.Refusal.{Refusal}
use Rattle.machine.specs.declared.refusal.Refusal.TheVariants.{NoCpu, BufferNotEmpty, NoEntry, Held}
use Rattle.machine.specs.Refusals.{of_pending}
use Rattle.machine.specs.State.{Processor, State}
use Rattle.machine.specs.Processors.{run_by, receive_of}
use Rattle.machine.specs.Steps.{End, step_of}

-- whether a refusal is for the order of effect alone: an instruction waits, or an entry is held
abbrev pub is_for_order : Refusal → Bool
is_for_order BufferNotEmpty = true
is_for_order (Held holder) = true
is_for_order _ = false

-- A run is refused for the order of effect alone, by the step at this place of its list.
pub record IsRefusedForOrder (at : ℕ) (end : End) : Type 0 where
  pub refusal : Refusal
  pub refused : end.refusal ≡ Some refusal
  pub for_order : is_for_order refusal ≡ true
  pub accepted : end.accepted ≡ at

-- A processor runs the instruction at its place as if nothing was buffered, and what is buffered stays. It is asked of
-- an mfence and of locked operations alone, and what these do rests on no buffered entry.
abbrev pub run_unwaiting : List ℕ → Processor → Memory → Result (Act × (Processor × Memory)) Refusal
run_unwaiting shape c m = do
  done ← run_by shape (record c { buffer = [] }) m
  Ok (done.0, (record done.1.0 { buffer = c.buffer }, done.1.1))

-- the entry at a place leaves the store buffer, held or not
abbrev pub drain_unheld : Processor → Memory → ℕ → Result (Entry × (Processor × Memory)) Refusal
drain_unheld c m i = do
  entry ← required NoEntry (slice_get c.buffer i)
  after ← refused_as of_pending (receive_of m entry)
  Ok (entry, (record c { buffer = remove c.buffer i }, after))

-- one turn later, with processor p and the memory changed
abbrev pub turned : State → ℕ → Processor × Memory → State
turned s p after = record s { turns = s.turns + 1; processors = slice_set s.processors p after.0; memory = after.1 }

-- processor p runs its instruction, its store buffer empty or not
abbrev pub exec_unwaiting : State → ℕ → Result (Seen × State) Refusal
exec_unwaiting s p = do
  c ← required NoCpu (slice_get s.processors p)
  done ← run_unwaiting s.shape c s.memory
  Ok (Ran p c.place done.0, turned s p done.1)

-- the entry at place i of processor p's store buffer leaves it, held or not
abbrev pub drain_unheld_at : State → ℕ → ℕ → Result (Seen × State) Refusal
drain_unheld_at s p i = do
  c ← required NoCpu (slice_get s.processors p)
  done ← drain_unheld c s.memory i
  Ok (Left p i done.0, turned s p done.1)

-- the same outcome, but where a step was refused for its order alone it is made without that test
abbrev pub unordered : State → Step → Result (Seen × State) Refusal → Result (Seen × State) Refusal
unordered s (Exec p) (Err BufferNotEmpty) = exec_unwaiting s p
unordered s (Drain p i) (Err (Held holder)) = drain_unheld_at s p i
unordered s step did = did

-- what a loose step shows and leaves, or its first refusal
abbrev pub loose_step_of : State → Step → Result (Seen × State) Refusal
loose_step_of s step = unordered s step (step_of s step)

-- what one step shows and then the rest, or nothing after a refusal
abbrev pub shown_on : Result (Seen × State) Refusal → (State → List Seen) → List Seen
shown_on (Ok done) rest = done.0 ∷ rest done.1
shown_on (Err refusal) rest = []

-- what the steps of a loose run show one after another, up to the first refusal or the end
abbrev pub loose_run_of : List Step → State → List Seen
loose_run_of [] s = []
loose_run_of (step ∷ steps) s = shown_on (loose_step_of s step) (loose_run_of steps)
