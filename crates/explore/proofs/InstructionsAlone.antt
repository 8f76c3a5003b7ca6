-- Whatever a processor that is alone does, it does what it would where each instruction took effect at once.
use Rattle.std.proofs.Common.{◌≡◌, ℕ, Bool, true, false, Option, Some, None, Result, Ok, Err, List, [], ◌∷◌, ◌++◌, length, refl, sym, ap, subst, ◌∙◌, true≢false, not}
use Rattle.std.specs.Prelude.{◌==◌, ◌&&◌, slice_index, unwrap_or, if◌then◌else◌}
use Rattle.std.specs.List.{list_any}
use Rattle.std.specs.Option.{option_map_or, option_or}
use Rattle.outcomes.specs.Lists.{newest}
use Rattle.outcomes.specs.Outcomes.{◌>>=◌, refuse, refused_as, required}
use Rattle.outcomes.proofs.NewestGiven.{newest-append}
use Rattle.outcomes.proofs.PartsOfOutcomes.{answer_of}
use Rattle.lines_layout.specs.Lines.{word_at}
use Rattle.isa.specs.declared.instr.Access.{Access}
use Rattle.isa.specs.declared.instr.Access.TheVariants as accesses
use Rattle.isa.specs.declared.instr.FenceKind.TheVariants.{Mfence, Sfence}
use Rattle.isa.specs.declared.instr.Instr.{Instr}
use Rattle.isa.specs.declared.instr.Instr.TheVariants as instrs
use Rattle.isa.specs.declared.instr.Next.{Next}
use Rattle.isa.specs.declared.instr.Next.TheVariants.{Following}
use Rattle.isa.specs.declared.register.Regs.{Regs}
use Rattle.isa.specs.Effects.{local_of}
use Rattle.isa.specs.Operands.{address_meant}
use Rattle.store_buffer.specs.declared.entry.Entry.{Entry}
use Rattle.store_buffer.specs.declared.entry.Entry.TheVariants as entries
use Rattle.store_buffer.specs.Buffers as buffers
use Rattle.store_buffer.specs.Buffers.{forward_of, is_held_by}
use Rattle.persist_buffer.specs.declared.entry.PendingEntry.{PendingEntry}
use Rattle.persist_buffer.specs.declared.entry.PendingEntry.TheVariants.{Write}
use Rattle.persist_buffer.specs.Memories.{coherent, value_to}
use Rattle.persist_buffer.specs.State.{Memory}
use Rattle.processor.specs.declared.act.Act.{Act}
use Rattle.processor.specs.declared.act.Act.TheVariants.{Local, Fence, Read, Delay, Locked, Trap}
use Rattle.processor.specs.declared.refusal.Refusal as exec
use Rattle.processor.specs.declared.refusal.Refusal.TheVariants as execs
use Rattle.processor.specs.Accesses.{act_of, is_locked, regs_of, value_read}
use Rattle.processor.specs.Acts.{IsShown}
use Rattle.processor.specs.Contents.{Contents, seen_value}
use Rattle.processor.specs.Cpus.{Cpu, next_cpu, trapped_at}
use Rattle.processor.specs.Executions.{access_of, contents_after, effect_of, next_instruction, waited}
use Rattle.processor.proofs.ActsShowAll.{empty_of}
use Rattle.machine.specs.declared.refusal.Refusal.{Refusal}
use Rattle.machine.specs.Processors.{contents_of, cpu_of, program_of, restart_of, run_by, with_cpu}
use Rattle.machine.specs.Refusals.{of_exec}
use Rattle.machine.specs.State.{Processor}
use Rattle.explore.specs.Covering.{grown}
use Rattle.explore.specs.Alone.{access_done, done_by, value_in, values_after}
use Rattle.explore.specs.StraightLine.{pending_of}
use Rattle.explore.proofs.Late.{Leaves}

abbrev Outcome : Type 0
Outcome = Result (Act × (Cpu × Contents)) exec.Refusal

-- ---- an instruction does what it would

module _ (s : Contents) where
  -- where it is done, this is done
  abbrev Says : Outcome → Act × Cpu → Type 0
  Says r x = (act : Act) (d : Cpu) (t : Contents) → r ≡ Ok (act, (d, t)) → (act ≡ x.0) × (d ≡ x.1)

  refused : (refusal : exec.Refusal) (x : Act × Cpu) → Says (Err refusal) x
  refused refusal x act d t e = absurd (cc)

  said : (shows : Act) (x : Cpu) (after : Contents) → Says (Ok (shows, (x, after))) (shows, x)
  said shows x after act d t e = let parts = answer_of shows act (x, after) (d, t) e in (parts.0, ap (λ (p : Cpu × Contents). p.0) parts.1)

  left : (shows : Act) (x : Cpu) (r : Result Contents exec.Refusal) → Says (r >>= λ after. Ok (shows, (x, after))) (shows, x)
  left shows x (Ok after) = said shows x after
  left shows x (Err refusal) = refused refusal (shows, x)

  waits : (q : Bool) (r : Outcome) (x : Act × Cpu) → (q ≡ false → Says r x) → Says (refuse execs.BufferNotEmpty q >>= λ drained. r) x
  waits true r x h = refused execs.BufferNotEmpty x
  waits false r x h = h refl

  -- the value read is the one seen: a locked operation finds nothing buffered
  pub reads : (access : Access) (word : ℕ) → (is_locked access && not (length s.buffer == 0)) ≡ false → value_read access word s ≡ value_in access word (seen_value s)
  reads (accesses.Load r) word free = refl
  reads (accesses.Store source) word free = refl
  reads (accesses.Flush kind) word free = refl
  reads (accesses.Locked operation r) word free = ap (λ (b : List Entry). unwrap_or (forward_of b word) (coherent s.memory word)) (sym (empty_of s.buffer free))

  access_says : (access : Access) (word : ℕ) (c : Cpu) → Says (waited (is_locked access) (length s.buffer == 0) (access_of access word c s)) (access_done access word c (seen_value s))
  access_says access word c = waits (is_locked access && not (length s.buffer == 0)) (access_of access word c s) (access_done access word c (seen_value s)) (λ free.
      subst (λ (value : ℕ). Says (access_of access word c s) (act_of access word c.regs value, next_cpu c Following (regs_of access c.regs value))) (reads access word free)
      (left (act_of access word c.regs (value_read access word s)) (next_cpu c Following (regs_of access c.regs (value_read access word s))) (contents_after (act_of access word c.regs (value_read access word s)) s)))

  memory_says : (access : Access) (address : ℕ) (c : Cpu) (o : Option ℕ)
      → Says (option_map_or (λ word. waited (is_locked access) (length s.buffer == 0) (access_of access word c s)) o (Ok (Trap address, (trapped_at c address, s))))
      (option_map_or (λ word. access_done access word c (seen_value s)) o (Trap address, trapped_at c address))
  memory_says access address c None = said (Trap address) (trapped_at c address) s
  memory_says access address c (Some word) = access_says access word c

  local_says : (c : Cpu) (o : Option (Next × Regs))
      → Says (option_map_or (λ after. Ok (Local, (next_cpu c after.0 after.1, s))) o (Ok (Local, (c, s)))) (option_map_or (λ after. (Local, next_cpu c after.0 after.1)) o (Local, c))
  local_says c None = said Local c s
  local_says c (Some after) = said Local (next_cpu c after.0 after.1) s

  effect_says : (instr : Instr) (c : Cpu) → Says (effect_of instr c s) (done_by instr s.shape c (seen_value s))
  effect_says (instrs.Memory access operand) c = memory_says access (address_meant c.regs operand) c (word_at s.shape (address_meant c.regs operand))
  effect_says (instrs.Fence Mfence) c = waits (not (length s.buffer == 0)) (Ok (Fence, (next_cpu c Following c.regs, s))) (Fence, next_cpu c Following c.regs) (λ free. said Fence (next_cpu c Following c.regs) s)
  effect_says (instrs.Fence Sfence) c = left (Delay entries.Sfence) (next_cpu c Following c.regs) (contents_after (Delay entries.Sfence) s)
  effect_says (instrs.Set r source) c = local_says c (local_of (instrs.Set r source) c.regs)
  effect_says (instrs.Compute operation r number) c = local_says c (local_of (instrs.Compute operation r number) c.regs)
  effect_says (instrs.Jump kind target) c = local_says c (local_of (instrs.Jump kind target) c.regs)
  effect_says instrs.Nop c = local_says c (local_of instrs.Nop c.regs)

-- of a processor in the machine
pub record DoesAsAlone (shape : List ℕ) (c d : Processor) (m : Memory) (act : Act) : Type 0 where
  pub instr : Instr
  pub next : next_instruction (program_of c) (cpu_of c) ≡ Some instr
  pub act_is : act ≡ (done_by instr shape (cpu_of c) (seen_value (contents_of shape c.buffer m))).0
  pub cpu_is : cpu_of d ≡ (done_by instr shape (cpu_of c) (seen_value (contents_of shape c.buffer m))).1
  pub program_is : program_of d ≡ program_of c
  pub restarts : restart_of d ≡ restart_of c

abbrev pub did : Processor → Outcome → Result (Act × (Processor × Memory)) Refusal
did c r = refused_as of_exec r >>= λ done. Ok (done.0, (with_cpu c done.1.0 done.1.1, done.1.1.memory))

found : (shape : List ℕ) (c d : Processor) (m n : Memory) (act : Act) (o : Option Instr) → next_instruction (program_of c) (cpu_of c) ≡ o
    → did c (required execs.Halted o >>= λ i. effect_of i (cpu_of c) (contents_of shape c.buffer m)) ≡ Ok (act, (d, n))
    → DoesAsAlone shape c d m act
found shape c d m n act None is e = absurd (cc)
found shape c d m n act (Some instr) is e = by (effect_of instr (cpu_of c) (contents_of shape c.buffer m)) (effect_says (contents_of shape c.buffer m) instr (cpu_of c)) e
  where
    by : (r : Outcome) → Says (contents_of shape c.buffer m) r (done_by instr shape (cpu_of c) (seen_value (contents_of shape c.buffer m)))
        → did c r ≡ Ok (act, (d, n)) → DoesAsAlone shape c d m act
    by (Err refusal) h f = absurd (cc)
    by (Ok done) h f =
        let parts = answer_of done.0 act (with_cpu c done.1.0 done.1.1, done.1.1.memory) (d, n) f in
        let after : d ≡ with_cpu c done.1.0 done.1.1 = ap (λ (p : Processor × Memory). p.0) parts.1 in
        let both = h done.0 done.1.0 done.1.1 refl in
        record {
          instr = instr;
          next = is;
          act_is = parts.0 ∙ both.0;
          cpu_is = ap cpu_of after ∙ both.1;
          program_is = ap program_of after;
          restarts = ap restart_of after;
        }

pub does_as_alone : (shape : List ℕ) (c d : Processor) (m n : Memory) (act : Act) → run_by shape c m ≡ Ok (act, (d, n)) → DoesAsAlone shape c d m act
does_as_alone shape c d m n act e = found shape c d m n act (next_instruction (program_of c) (cpu_of c)) refl e

-- ---- what it sees then

coherent_grown : (m : Memory) (more : List PendingEntry) (word : ℕ) → coherent (grown m more) word ≡ unwrap_or (newest (value_to word) more) (coherent m word)
coherent_grown m more word = ap (λ (o : Option ℕ). unwrap_or o (slice_index m.persisted word)) (newest-append (value_to word) m.pending more) ∙ by (newest (value_to word) more) (newest (value_to word) m.pending)
  where
    by : (o p : Option ℕ) → unwrap_or (option_or o p) (slice_index m.persisted word) ≡ unwrap_or o (unwrap_or p (slice_index m.persisted word))
    by None p = refl
    by (Some x) p = refl

one_more : (o : Option ℕ) (n : ℕ) (b : Bool) (value : ℕ) → unwrap_or (option_or (if b then Some value else None) o) n ≡ (if b then value else unwrap_or o n)
one_more o n true value = refl
one_more o n false value = refl

written_more : (n : ℕ) (b : Bool) (value : ℕ) → unwrap_or (if b then Some value else None) n ≡ (if b then value else n)
written_more n true value = refl
written_more n false value = refl

same_values : (s t : Contents) (word : ℕ) → t ≡ s → seen_value t word ≡ seen_value s word
same_values s t word e = ap (λ (x : Contents). seen_value x word) e

delayed_values : (s t : Contents) (entry : Entry) (word : ℕ) → t.buffer ≡ s.buffer ++ entry ∷ [] → t.memory ≡ s.memory
    → seen_value t word ≡ unwrap_or (option_or (buffers.value_to word entry) (forward_of s.buffer word)) (coherent s.memory word)
delayed_values s t entry word buffer memory =
    ap (λ (b : List Entry). unwrap_or (forward_of b word) (coherent t.memory word)) buffer
    ∙ ap (λ (m : Memory). unwrap_or (forward_of (s.buffer ++ entry ∷ []) word) (coherent m word)) memory
    ∙ ap (λ (o : Option ℕ). unwrap_or o (coherent s.memory word)) (newest-append (buffers.value_to word) s.buffer (entry ∷ []))

pub shown_values : (act : Act) (s t : Contents) (word : ℕ) → IsShown act s t → seen_value t word ≡ values_after act (seen_value s) word
shown_values Local s t word shown = same_values s t word shown
shown_values Fence s t word shown = same_values s t word shown.1
shown_values (Read seen value) s t word shown = same_values s t word shown.1
shown_values (Delay (entries.Write target value)) s t word shown =
    delayed_values s t (entries.Write target value) word shown.buffer shown.memory ∙ one_more (forward_of s.buffer word) (coherent s.memory word) (target == word) value
shown_values (Delay (entries.Flush line)) s t word shown = delayed_values s t (entries.Flush line) word shown.buffer shown.memory
shown_values (Delay (entries.FlushOpt line)) s t word shown = delayed_values s t (entries.FlushOpt line) word shown.buffer shown.memory
shown_values (Delay entries.Sfence) s t word shown = delayed_values s t entries.Sfence word shown.buffer shown.memory
shown_values (Locked target value (Some new)) s t word shown =
    let memory : t.memory ≡ grown s.memory (Write target new ∷ []) = λ k. record { pending = shown.2.pending k; persisted = shown.2.persisted k } in
    ap (λ (b : List Entry). unwrap_or (forward_of b word) (coherent t.memory word)) (shown.2.buffer ∙ shown.0)
    ∙ ap (λ (m : Memory). coherent m word) memory
    ∙ coherent_grown s.memory (Write target new ∷ []) word
    ∙ written_more (coherent s.memory word) (target == word) new
    ∙ ap (λ (n : ℕ). if target == word then new else n) (ap (λ (b : List Entry). unwrap_or (forward_of b word) (coherent s.memory word)) (sym shown.0))
shown_values (Locked target value None) s t word shown = same_values s t word shown.2
shown_values (Trap address) s t word shown = same_values s t word shown.1

-- ---- an entry that leaves shows nowhere

none_before : (word target value : ℕ) (before : List Entry) → list_any (is_held_by (entries.Write target value)) before ≡ false → newest (buffers.value_to word) before ≡ None
none_before word target value [] free = refl
none_before word target value (entries.Write other number ∷ before) free = absurd (true≢false free)
none_before word target value (entries.Flush line ∷ before) free = absurd (true≢false free)
none_before word target value (entries.FlushOpt line ∷ before) free = ap (λ (o : Option ℕ). option_or o None) (none_before word target value before free)
none_before word target value (entries.Sfence ∷ before) free = absurd (true≢false free)

joined_values : (a b : Option ℕ) (n : ℕ) → unwrap_or (option_or a b) n ≡ unwrap_or a (unwrap_or b n)
joined_values None b n = refl
joined_values (Some x) b n = refl

plain_or : (o : Option ℕ) → option_or o None ≡ o
plain_or None = refl
plain_or (Some x) = refl

-- an entry that writes nothing
silent : (word : ℕ) (entry : Entry) (before later : List Entry) → buffers.value_to word entry ≡ None → newest (buffers.value_to word) (before ++ later) ≡ newest (buffers.value_to word) (before ++ entry ∷ later)
silent word entry before later none =
    newest-append (buffers.value_to word) before later
    ∙ ap (λ (o : Option ℕ). option_or o (newest (buffers.value_to word) before)) (sym (ap (option_or (newest (buffers.value_to word) later)) none ∙ plain_or (newest (buffers.value_to word) later)))
    ∙ sym (newest-append (buffers.value_to word) before (entry ∷ later))

quiet_values : (entry : Entry) (b d : List Entry) (m : Memory) (word : ℕ) → Leaves entry b d → buffers.value_to word entry ≡ None → newest (value_to word) (pending_of entry) ≡ None
    → unwrap_or (forward_of d word) (coherent (grown m (pending_of entry)) word) ≡ unwrap_or (forward_of b word) (coherent m word)
quiet_values entry b d m word left none gone =
    ap (λ (es : List Entry). unwrap_or (forward_of es word) (coherent (grown m (pending_of entry)) word)) left.rest
    ∙ ap (λ (o : Option ℕ). unwrap_or o (coherent (grown m (pending_of entry)) word)) (silent word entry left.before left.later none)
    ∙ ap (λ (n : ℕ). unwrap_or (forward_of (left.before ++ entry ∷ left.later) word) n) (coherent_grown m (pending_of entry) word ∙ ap (λ (o : Option ℕ). unwrap_or o (coherent m word)) gone)
    ∙ ap (λ (es : List Entry). unwrap_or (forward_of es word) (coherent m word)) (sym left.whole)

pub leaving_values : (entry : Entry) (b d : List Entry) (m : Memory) (word : ℕ) → Leaves entry b d
    → unwrap_or (forward_of d word) (coherent (grown m (pending_of entry)) word) ≡ unwrap_or (forward_of b word) (coherent m word)
leaving_values (entries.Write target value) b d m word left =
    let none = none_before word target value left.before left.free in
    let mine : Option ℕ = if target == word then Some value else None in
    let rest : Option ℕ = newest (buffers.value_to word) left.later in
    let now : forward_of d word ≡ rest =
    ap (newest (buffers.value_to word)) left.rest ∙ newest-append (buffers.value_to word) left.before left.later ∙ ap (option_or rest) none ∙ plain_or rest in
    let was : forward_of b word ≡ option_or rest mine =
    ap (newest (buffers.value_to word)) left.whole ∙ newest-append (buffers.value_to word) left.before (entries.Write target value ∷ left.later) ∙ ap (option_or (option_or rest mine)) none ∙ plain_or (option_or rest mine) in
    ap (λ (o : Option ℕ). unwrap_or o (coherent (grown m (Write target value ∷ [])) word)) now
    ∙ ap (λ (n : ℕ). unwrap_or rest n) (coherent_grown m (Write target value ∷ []) word)
    ∙ sym (joined_values rest mine (coherent m word))
    ∙ ap (λ (o : Option ℕ). unwrap_or o (coherent m word)) (sym was)
leaving_values (entries.Flush line) b d m word left = quiet_values (entries.Flush line) b d m word left refl refl
leaving_values (entries.FlushOpt line) b d m word left = quiet_values (entries.FlushOpt line) b d m word left refl refl
leaving_values entries.Sfence b d m word left = quiet_values entries.Sfence b d m word left refl refl
