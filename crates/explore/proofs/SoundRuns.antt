-- Steps keep a state one of the same machine.
use Rattle.std.proofs.Common.{◌≡◌, ℕ, zero, suc, Bool, true, false, ◌&&◌, not, Option, Some, None, Result, Ok, Err, List, [], ◌∷◌, map, length, refl, sym, ap, ap₂, ◌∙◌, subst, length-set, true≢false, get_or-set_other}
use Rattle.std.specs.Prelude.{◌==◌, if◌then◌else◌, slice_get, slice_index, slice_set}
use Rattle.std.specs.List.{list_all}
use Rattle.std.specs.Option.{option_map_or}
use Rattle.std.proofs.lemmas.Bool.{and_parts, eqb-true, eq-eqb}
use Rattle.lines_layout.specs.Lines.{has_word, max_words, word_at}
use Rattle.isa.specs.declared.programs.Programs.{Programs}
use Rattle.isa.specs.Loadables.{is_loadable}
use Rattle.isa.specs.Objects.{IsObject, Object, shape}
use Rattle.machine.specs.Objects.{opening, opening_processor}
use Rattle.lines_layout.specs.Shapes.{IsShape}
use Rattle.isa.specs.declared.instr.Access.{Access}
use Rattle.isa.specs.declared.instr.Access.TheVariants as accesses
use Rattle.isa.specs.declared.instr.Computation.TheVariants.{Add, Compare}
use Rattle.isa.specs.declared.instr.FenceKind.TheVariants.{Mfence, Sfence}
use Rattle.isa.specs.declared.instr.Instr.{Instr}
use Rattle.isa.specs.declared.instr.Instr.TheVariants as instrs
use Rattle.isa.specs.declared.instr.JumpKind.TheVariants.{Always, IfZero, IfNotZero}
use Rattle.isa.specs.declared.instr.LockedOperation.{LockedOperation}
use Rattle.isa.specs.declared.instr.LockedOperation.TheVariants.{Exchange, ExchangeAdd, CompareExchange}
use Rattle.isa.specs.declared.instr.Next.{Next}
use Rattle.isa.specs.declared.instr.Next.TheVariants.{Following}
use Rattle.isa.specs.declared.register.Reg.{Reg}
use Rattle.isa.specs.declared.register.Reg.TheVariants.{Rax}
use Rattle.isa.specs.declared.register.Regs.{Regs}
use Rattle.isa.specs.Effects.{local_of}
use Rattle.isa.specs.Operands.{address_meant}
use Rattle.isa.specs.Registers.{reg, with_reg, with_zero}
use Rattle.store_buffer.specs.declared.entry.Entry.{Entry}
use Rattle.store_buffer.specs.declared.entry.Entry.TheVariants as entries
use Rattle.persist_buffer.specs.State.{Memory}
use Rattle.outcomes.specs.Outcomes.{◌>>=◌, refuse, refused_as, required}
use Rattle.outcomes.proofs.PartsOfOutcomes.{answer_of}
use Rattle.processor.specs.declared.act.Act.{Act}
use Rattle.processor.specs.declared.act.Act.TheVariants.{Local, Fence, Read, Delay, Locked, Trap}
use Rattle.processor.specs.declared.refusal.Refusal as exec
use Rattle.processor.specs.declared.refusal.Refusal.TheVariants as execs
use Rattle.processor.specs.Accesses.{act_of, is_locked, locked_regs, regs_of, value_read}
use Rattle.processor.specs.Acts.{IsShown}
use Rattle.processor.specs.Contents.{Contents}
use Rattle.processor.specs.Cpus.{Cpu, next_cpu, trapped_at}
use Rattle.processor.specs.Executions.{access_of, contents_after, effect_of, exec_of, next_instruction, waited}
use Rattle.machine.specs.declared.refusal.Refusal.{Refusal}
use Rattle.machine.specs.declared.step.Step.{Step}
use Rattle.machine.specs.declared.step.Step.TheVariants.{Exec, Drain, Persist, Settle, Crash}
use Rattle.machine.specs.declared.step.Seen.{Seen}
use Rattle.machine.specs.State.{Processor, State}
use Rattle.machine.specs.Processors.{contents_of, cpu_of, program_of, receive_of, restart_of, run_by, with_cpu}
use Rattle.machine.specs.Refusals.{of_exec}
use Rattle.machine.specs.Steps.{End, end_after, run_of, step_of}
use Rattle.machine.proofs.CrashKeepsWhatIsPersisted.{memory_after, processors_after}
use Rattle.machine.proofs.DrainingIsASplit.{fence_disappears, flush_arrives, optimized_flush_arrives, write_arrives}
use Rattle.machine.proofs.ExecShowsAll.{exec_shown}
use Rattle.machine.proofs.PersistAndSettleStepsSplit.{persist_only, settle_only}
use Rattle.machine.proofs.ProcessorSteps.{drain_only, exec_only}
use Rattle.machine.proofs.ProgramsStay.{step_sibling}
use Rattle.machine.proofs.WritesKeepToTheShape.{opening_within, pending_word, step_within}
use Rattle.explore.specs.Sound.{IsOf, IsSound, has_registers}

-- ---- persisted values

persisted_shown : (act : Act) (s t : Contents) → IsShown act s t → t.memory.persisted ≡ s.memory.persisted
persisted_shown Local s t shown = ap (λ (x : Contents). x.memory.persisted) shown
persisted_shown Fence s t shown = ap (λ (x : Contents). x.memory.persisted) shown.1
persisted_shown (Read word value) s t shown = ap (λ (x : Contents). x.memory.persisted) shown.1
persisted_shown (Delay entry) s t shown = ap (λ (m : Memory). m.persisted) shown.memory
persisted_shown (Locked word value None) s t shown = ap (λ (x : Contents). x.memory.persisted) shown.2
persisted_shown (Locked word value (Some new)) s t shown = shown.2.persisted
persisted_shown (Trap address) s t shown = ap (λ (x : Contents). x.memory.persisted) shown.1

received : (entry : Entry) (m n : Memory) → receive_of m entry ≡ Ok n → n.persisted ≡ m.persisted
received (entries.Write word value) m n e = (write_arrives m n word value e).persisted
received (entries.Flush line) m n e = (flush_arrives m n line e).persisted
received (entries.FlushOpt line) m n e = (optimized_flush_arrives m n line e).persisted
received entries.Sfence m n e = ap (λ (x : Memory). x.persisted) (fence_disappears m n e)

-- as many persisted values, and the same of words that the shape lacks
record Stay (s : State) (persisted : List ℕ) : Type 0 where
  words : length persisted ≡ length s.memory.persisted
  outside : (word : ℕ) → has_word s.shape word ≡ false → slice_index persisted word ≡ slice_index s.memory.persisted word

all_stay : (s : State) (persisted : List ℕ) → persisted ≡ s.memory.persisted → Stay s persisted
all_stay s persisted e = record { words = ap length e; outside = λ word lacks. ap (λ (xs : List ℕ). slice_index xs word) e }

step_stays : (s u : State) (step : Step) (seen : Seen) → IsSound s → step_of s step ≡ Ok (seen, u) → Stay s u.memory.persisted
step_stays s u (Exec p) seen sound e =
    let x = exec_only s u p seen e in
    all_stay s u.memory.persisted (persisted_shown x.act (contents_of s.shape x.before.buffer s.memory) (contents_of s.shape x.after.buffer u.memory)
    (exec_shown s.shape x.before x.after s.memory u.memory x.act x.ran))
step_stays s u (Drain p i) seen sound e = let x = drain_only s u p i seen e in all_stay s u.memory.persisted (received x.entry s.memory u.memory x.arrived)
step_stays s u (Persist line) seen sound e =
    let x = persist_only s u line seen e in
    let there = pending_word s x.word x.value x.before x.later sound.within x.split.whole in record {
      words = ap length x.split.persisted ∙ length-set s.memory.persisted x.word x.value;
      outside = λ word lacks.
          ap (λ (xs : List ℕ). slice_index xs word) x.split.persisted
          ∙ get_or-set_other s.memory.persisted x.word word x.value 0 (λ same. true≢false (sym there.0 ∙ ap (has_word s.shape) (sym same) ∙ lacks));
    }
step_stays s u Settle seen sound e = let x = settle_only s u seen e in all_stay s u.memory.persisted x.split.persisted
step_stays s u Crash seen sound e = all_stay s u.memory.persisted (ap (λ (m : Memory). m.persisted) (memory_after s u seen e))

-- ---- registers

-- a value for each register
abbrev Full : Regs → Type 0
Full regs = length regs.values ≡ 8

reg_full : (regs : Regs) (r : Reg) (n : ℕ) → Full regs → Full (with_reg regs r n)
reg_full regs r n full = length-set regs.values _ n ∙ full

locked_full : (operation : LockedOperation) (r : Reg) (regs : Regs) (value : ℕ) → Full regs → Full (locked_regs operation r regs value)
locked_full Exchange r regs value full = reg_full regs r value full
locked_full ExchangeAdd r regs value full = reg_full regs r value full
locked_full CompareExchange r regs value full = compared (reg regs Rax == value)
  where
    compared : (equal : Bool) → Full (if equal then with_zero regs true else with_zero (with_reg regs Rax value) false)
    compared true = full
    compared false = reg_full regs Rax value full

access_full : (access : Access) (regs : Regs) (value : ℕ) → Full regs → Full (regs_of access regs value)
access_full (accesses.Load r) regs value full = reg_full regs r value full
access_full (accesses.Store source) regs value full = full
access_full (accesses.Locked operation r) regs value full = locked_full operation r regs value full
access_full (accesses.Flush kind) regs value full = full

abbrev Outcome : Type 0
Outcome = Result (Act × (Cpu × Contents)) exec.Refusal

abbrev Leaves : Outcome → Type 0
Leaves r = (act : Act) (d : Cpu) (t : Contents) → r ≡ Ok (act, (d, t)) → Full d.regs

refused : (refusal : exec.Refusal) → Leaves (Err refusal)
refused refusal act d t e = absurd (cc)

leaves : (act : Act) (x : Cpu) (s : Contents) → Full x.regs → Leaves (Ok (act, (x, s)))
leaves act x s full other d t e =
    let parts = answer_of act other (x, s) (d, t) e in
    ap (λ (p : Cpu × Contents). length p.0.regs.values) parts.1 ∙ full

after_full : (shows : Act) (x : Cpu) (r : Result Contents exec.Refusal) → Full x.regs → Leaves (r >>= λ after. Ok (shows, (x, after)))
after_full shows x (Ok s) full = leaves shows x s full
after_full shows x (Err refusal) full = refused refusal

waits : (q : Bool) (r : Outcome) → Leaves r → Leaves (refuse execs.BufferNotEmpty q >>= λ drained. r)
waits true r h = refused execs.BufferNotEmpty
waits false r h = h

module _ (c : Cpu) (s : Contents) (full : Full c.regs) where
  memory_full : (access : Access) (address : ℕ) (o : Option ℕ)
      → Leaves (option_map_or (λ word. waited (is_locked access) (length s.buffer == 0) (access_of access word c s)) o (Ok (Trap address, (trapped_at c address, s))))
  memory_full access address None = leaves (Trap address) (trapped_at c address) s full
  memory_full access address (Some word) =
      let value = value_read access word s in
      waits (is_locked access && not (length s.buffer == 0)) (access_of access word c s)
      (after_full (act_of access word c.regs value) (next_cpu c Following (regs_of access c.regs value)) (contents_after (act_of access word c.regs value) s) (access_full access c.regs value full))

  local_full : (o : Option (Next × Regs)) → ((after : Next × Regs) → o ≡ Some after → Full after.1) → Leaves (option_map_or (λ after. Ok (Local, (next_cpu c after.0 after.1, s))) o (Ok (Local, (c, s))))
  local_full None h = leaves Local c s full
  local_full (Some after) h = leaves Local (next_cpu c after.0 after.1) s (h after refl)

  by_regs : (next : Next) (regs : Regs) (after : Next × Regs) → Full regs → ◌≡◌ {A = Option (Next × Regs)} (Some (next, regs)) (Some after) → Full after.1
  by_regs next regs after h e =
      let same : (next, regs) ≡ after = cc in
      ap (λ (p : Next × Regs). length p.1.values) (sym same) ∙ h

  effect_full : (instr : Instr) → Leaves (effect_of instr c s)
  effect_full (instrs.Memory access operand) = memory_full access (address_meant c.regs operand) (word_at s.shape (address_meant c.regs operand))
  effect_full (instrs.Fence Mfence) = waits (not (length s.buffer == 0)) (Ok (Fence, (next_cpu c Following c.regs, s))) (leaves Fence (next_cpu c Following c.regs) s full)
  effect_full (instrs.Fence Sfence) = after_full (Delay entries.Sfence) (next_cpu c Following c.regs) (contents_after (Delay entries.Sfence) s) full
  effect_full (instrs.Set r source) = local_full (local_of (instrs.Set r source) c.regs) (λ after e. by_regs _ _ after (reg_full c.regs r _ full) e)
  effect_full (instrs.Compute Add r number) = local_full (local_of (instrs.Compute Add r number) c.regs) (λ after e. by_regs _ _ after (reg_full c.regs r _ full) e)
  effect_full (instrs.Compute Compare r number) = local_full (local_of (instrs.Compute Compare r number) c.regs) (λ after e. by_regs _ _ after full e)
  effect_full (instrs.Jump Always target) = local_full (local_of (instrs.Jump Always target) c.regs) (λ after e. by_regs _ _ after full e)
  effect_full (instrs.Jump IfZero target) = local_full (local_of (instrs.Jump IfZero target) c.regs) (λ after e. by_regs _ _ after full e)
  effect_full (instrs.Jump IfNotZero target) = local_full (local_of (instrs.Jump IfNotZero target) c.regs) (λ after e. by_regs _ _ after full e)
  effect_full instrs.Nop = local_full (local_of instrs.Nop c.regs) (λ after e. by_regs _ _ after full e)

  found_full : (o : Option Instr) → Leaves (required execs.Halted o >>= λ i. effect_of i c s)
  found_full None = refused execs.Halted
  found_full (Some instr) = effect_full instr

abbrev ran : Processor → Outcome → Result (Act × (Processor × Memory)) Refusal
ran c r = refused_as of_exec r >>= λ done. Ok (done.0, (with_cpu c done.1.0 done.1.1, done.1.1.memory))

ran_full : (c d : Processor) (n : Memory) (act : Act) (r : Outcome) → Leaves r → ran c r ≡ Ok (act, (d, n)) → Full d.regs
ran_full c d n act (Ok done) h e =
    let parts = answer_of done.0 act (with_cpu c done.1.0 done.1.1, done.1.1.memory) (d, n) e in
    ap (λ (p : Processor × Memory). length p.0.regs.values) parts.1 ∙ h done.0 done.1.0 done.1.1 refl
ran_full c d n act (Err refusal) h e = absurd (cc)

run_full : (shape : List ℕ) (c d : Processor) (m n : Memory) (act : Act) → Full c.regs → run_by shape c m ≡ Ok (act, (d, n)) → Full d.regs
run_full shape c d m n act full e =
    ran_full c d n act (exec_of (program_of c) (cpu_of c) (contents_of shape c.buffer m))
    (found_full (cpu_of c) (contents_of shape c.buffer m) full (next_instruction (program_of c) (cpu_of c))) e

full_at : (cpus : List Processor) (p : ℕ) (c : Processor) → list_all has_registers cpus ≡ true → slice_get cpus p ≡ Some c → Full c.regs
full_at [] p c all there = absurd (cc)
full_at (x ∷ cpus) zero c all there =
    let same : x ≡ c = cc in
    ap (λ (y : Processor). length y.regs.values) (sym same) ∙ eqb-true _ _ (and_parts (has_registers x) (list_all has_registers cpus) all).0
full_at (x ∷ cpus) (suc p) c all there = full_at cpus p c (and_parts (has_registers x) (list_all has_registers cpus) all).1 there

full_set : (cpus : List Processor) (p : ℕ) (c : Processor) → list_all has_registers cpus ≡ true → Full c.regs → list_all has_registers (slice_set cpus p c) ≡ true
full_set [] p c all full = refl
full_set (x ∷ cpus) zero c all full = ap₂ (λ (a b : Bool). a && b) (eq-eqb _ _ full) (and_parts (has_registers x) (list_all has_registers cpus) all).1
full_set (x ∷ cpus) (suc p) c all full =
    let both = and_parts (has_registers x) (list_all has_registers cpus) all in
    ap₂ (λ (a b : Bool). a && b) both.0 (full_set cpus p c both.1 full)

full_restarted : (cpus : List Processor) → list_all has_registers (map restart_of cpus) ≡ true
full_restarted [] = refl
full_restarted (x ∷ cpus) = full_restarted cpus

step_full : (s u : State) (step : Step) (seen : Seen) → list_all has_registers s.processors ≡ true → step_of s step ≡ Ok (seen, u) → list_all has_registers u.processors ≡ true
step_full s u (Exec p) seen all e =
    let x = exec_only s u p seen e in
    ap (list_all has_registers) x.alone.processors ∙ full_set s.processors p x.after all (run_full s.shape x.before x.after s.memory u.memory x.act (full_at s.processors p x.before all x.there) x.ran)
step_full s u (Drain p i) seen all e =
    let x = drain_only s u p i seen e in
    let full : Full x.after.regs = ap (λ (c : Processor). length c.regs.values) x.split.rest ∙ full_at s.processors p x.before all x.there in
    ap (list_all has_registers) x.alone.processors ∙ full_set s.processors p x.after all full
step_full s u (Persist line) seen all e = ap (list_all has_registers) ((persist_only s u line seen e).alone.processors) ∙ all
step_full s u Settle seen all e = ap (list_all has_registers) ((settle_only s u seen e).alone.processors) ∙ all
step_full s u Crash seen all e = ap (list_all has_registers) (processors_after s u seen e) ∙ full_restarted s.processors

-- ---- together

pub step_sound : (s u : State) (step : Step) (seen : Seen) → IsSound s → step_of s step ≡ Ok (seen, u) → IsSound u
step_sound s u step seen sound e = record {
  shape = subst IsShape (sym (step_sibling s u step seen e).shape) sound.shape;
  persisted = (step_stays s u step seen sound e).words ∙ sound.persisted;
  within = step_within s u step seen sound.within e;
  registers = step_full s u step seen sound.registers e;
}

pub of_itself : (s : State) → IsSound s → IsOf s s
of_itself s sound = record { sound = sound; sibling = record { shape = refl; programs = refl }; outside = λ word lacks. refl }

pub step_of_it : (start s u : State) (step : Step) (seen : Seen) → IsOf start s → step_of s step ≡ Ok (seen, u) → IsOf start u
step_of_it start s u step seen is e =
    let sibling = step_sibling s u step seen e in record {
      sound = step_sound s u step seen is.sound e;
      sibling = record { shape = sibling.shape ∙ is.sibling.shape; programs = sibling.programs ∙ is.sibling.programs };
      outside = λ word lacks. (step_stays s u step seen is.sound e).outside word (ap (λ (shape : List ℕ). has_word shape word) is.sibling.shape ∙ lacks) ∙ is.outside word lacks;
    }

of_on : (start s : State) (step : Step) (r : Result (Seen × State) Refusal) (rest : State → End) → IsOf start s → step_of s step ≡ r → ((u : State) → IsOf start u → IsOf start (rest u).state)
    → IsOf start (end_after s r rest).state
of_on start s step (Ok done) rest is e each = each done.1 (step_of_it start s done.1 step done.0 is e)
of_on start s step (Err refusal) rest is e each = is

pub run_of_it : (start : State) (steps : List Step) (s : State) → IsOf start s → IsOf start (run_of steps s).state
run_of_it start [] s is = is
run_of_it start (step ∷ steps) s is = of_on start s step (step_of s step) (run_of steps) is refl (λ u. run_of_it start steps u)

-- ---- the beginning

full_openings : (processors : List Programs) → list_all has_registers (map opening_processor processors) ≡ true
full_openings [] = refl
full_openings (p ∷ processors) = full_openings processors

pub opening_sound : (o : Object) → IsShape (shape o) → length o.values ≡ max_words → is_loadable (shape o) o.processors ≡ true → IsSound (opening o)
opening_sound o is_shape words loadable = record {
  shape = is_shape;
  persisted = words;
  within = opening_within o loadable;
  registers = full_openings o.processors;
}

-- of a loaded machine, after any steps
pub loaded_sound : (o : Object) (steps : List Step) → IsShape (shape o) → IsObject o → IsSound (run_of steps (opening o)).state
loaded_sound o steps lines is = (run_of_it (opening o) steps (opening o) (of_itself (opening o) (opening_sound o lines is.count is.loadable))).sound
