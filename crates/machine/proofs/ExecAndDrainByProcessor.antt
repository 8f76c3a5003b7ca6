-- What the definitions give for a processor, and for one in its list.
use Rattle.std.proofs.Common.{◌≡◌, ℕ, ◌<◌, Some, Ok, Err, List, length, get_or, set, ap, ◌∙◌}
use Rattle.std.specs.Prelude.{slice_get}
use Rattle.std.proofs.lemmas.List.{set-get_or}
use Rattle.std.proofs.lemmas.Option.{slice_get-get_or}
use Rattle.isa.specs.declared.instr.Instr.{Instr}
use Rattle.persist_buffer.specs.State.{Memory}
use Rattle.processor.specs.declared.act.Act.{Act}
use Rattle.processor.specs.Contents.{Contents}
use Rattle.processor.specs.Cpus.{Cpu}
use Rattle.processor.specs.Executions.{exec_of}
use Rattle.persist_buffer.specs.Memories.{write_room_of, add_write_of}
use Rattle.outcomes.proofs.PartsOfOutcomes.{tested_made, tested_room}
use Rattle.machine.specs.declared.refusal.Refusal.{Refusal}
use Rattle.machine.specs.State.{Processor}
use Rattle.machine.specs.declared.step.Seen.{Seen}
use Rattle.machine.specs.declared.step.Seen.TheVariants.{Ran, Left}
use Rattle.machine.specs.declared.refusal.Refusal.TheVariants.{NoCpu}
use Rattle.store_buffer.specs.declared.entry.Entry.{Entry}
use Rattle.outcomes.specs.Outcomes.{◌>>=◌, required, tested}
use Rattle.machine.specs.Processors.{program_of, cpu_of, contents_of, with_cpu, run_by, drain_of}
use Rattle.machine.specs.Steps.{exec_at, drain_at}

pub run_by_ok : (shape : List ℕ) (c : Processor) (m : Memory) (program : List Instr) (act : Act) (core : Cpu) (s : Contents) → program ≡ program_of c → exec_of program (cpu_of c) (contents_of shape c.buffer m) ≡ Ok (act, (core, s)) → run_by shape c m ≡ Ok (act, (with_cpu c core s, s.memory))
run_by_ok shape c m program act core s same e = simp (← same, e)

pub write_tested : (m : Memory) (word value : ℕ) → tested (add_write_of m word value) ≡ write_room_of m word
write_tested m word value = tested_room (write_room_of m word) _

module _ (shape : List ℕ) (cpus : List Processor) (m : Memory) (p : ℕ) (d : Processor) (within : p < length cpus) where
  there : slice_get cpus p ≡ Some (get_or cpus p d)
  there = slice_get-get_or cpus p d within

  pub exec_at_ok : (act : Act) (c' : Processor) (m' : Memory) → run_by shape (get_or cpus p d) m ≡ Ok (act, (c', m')) → exec_at shape cpus m p ≡ Ok (Ran p (get_or cpus p d).place act, (set cpus p c', m'))
  exec_at_ok act c' m' e = simp (there, e)

  pub exec_at_err : (refusal : Refusal) → run_by shape (get_or cpus p d) m ≡ Err refusal → exec_at shape cpus m p ≡ Err refusal
  exec_at_err refusal e = simp (there, e)

  pub drain_at_ok : (i : ℕ) (entry : Entry) (c' : Processor) (m' : Memory) → drain_of (get_or cpus p d) m i ≡ Ok (entry, (c', m')) → drain_at cpus m p i ≡ Ok (Left p i entry, (set cpus p c', m'))
  drain_at_ok i entry c' m' e = simp (there, e)

  pub drain_at_err : (i : ℕ) (refusal : Refusal) → drain_of (get_or cpus p d) m i ≡ Err refusal → drain_at cpus m p i ≡ Err refusal
  drain_at_err i refusal e = simp (there, e)

  pub both_unchanged : (c' : Processor) (m' : Memory) → ◌≡◌ {A = Processor × Memory} (c', m') (get_or cpus p d, m) → ◌≡◌ {A = List Processor × Memory} (set cpus p c', m') (cpus, m)
  both_unchanged c' m' e =
      let same : set cpus p c' ≡ cpus = rw (ap (λ (pair : Processor × Memory). pair.0) e) (set-get_or cpus p d) in
      let still : m' ≡ m = ap (λ (pair : Processor × Memory). pair.1) e in
      λ i. (same i, still i)

module _ (shape : List ℕ) (cpus : List Processor) (m : Memory) (p : ℕ) (c : Processor) (is : slice_get cpus p ≡ Some c) where
  pub exec_at_tested : tested (exec_at shape cpus m p) ≡ tested (run_by shape c m)
  exec_at_tested =
      ap (λ o. tested {A = Seen × (List Processor × Memory)} (required NoCpu o >>= λ c. run_by shape c m >>= λ done. Ok (Ran p c.place done.0, (set cpus p done.1.0, done.1.1)))) is
      ∙ tested_made (run_by shape c m) (λ done. (Ran p c.place done.0, (set cpus p done.1.0, done.1.1)))

  pub drain_at_tested : (i : ℕ) → tested (drain_at cpus m p i) ≡ tested (drain_of c m i)
  drain_at_tested i =
      ap (λ o. tested {A = Seen × (List Processor × Memory)} (required NoCpu o >>= λ c. drain_of c m i >>= λ done. Ok (Left p i done.0, (set cpus p done.1.0, done.1.1)))) is
      ∙ tested_made (drain_of c m i) (λ done. (Left p i done.0, (set cpus p done.1.0, done.1.1)))
