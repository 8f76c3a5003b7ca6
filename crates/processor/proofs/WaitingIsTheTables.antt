-- Instructions wait as the table says.
use Rattle.std.proofs.Common.{◌≡◌, ◌≢◌, ℕ, ◌⊎◌, Bool, true, false, Option, Some, None, Result, Ok, Err, List, [], ◌∷◌, length, refl, ap, subst, sym, ◌∙◌, inl, inr}
use Rattle.std.specs.Prelude.{not, ◌==◌, MatchOption}
use Rattle.std.specs.Option.{option_map_or}
use Rattle.std.proofs.lemmas.Bool.{and_parts, cases_eq}
use Rattle.lines_layout.specs.Lines.{word_at}
use Rattle.isa.specs.declared.instr.Access.{Access}
use Rattle.isa.specs.declared.instr.Access.TheVariants as accesses
use Rattle.isa.specs.declared.instr.Computation.TheVariants.{Add, Compare}
use Rattle.isa.specs.declared.instr.FenceKind.TheVariants.{Mfence}
use Rattle.isa.specs.declared.instr.FenceKind.TheVariants as fences
use Rattle.isa.specs.declared.instr.FlushKind.TheVariants.{Clflush, Clflushopt, Clwb}
use Rattle.isa.specs.declared.instr.Instr.{Instr}
use Rattle.isa.specs.declared.instr.Instr.TheVariants as instrs
use Rattle.isa.specs.declared.instr.JumpKind.TheVariants.{Always, IfZero, IfNotZero}
use Rattle.isa.specs.declared.instr.LockedOperation.TheVariants.{Exchange, ExchangeAdd, CompareExchange}
use Rattle.isa.specs.declared.instr.MemoryOperand.{MemoryOperand}
use Rattle.isa.specs.declared.instr.Next.TheVariants.{Following}
use Rattle.isa.specs.declared.instr.Source.TheVariants.{Register, Number}
use Rattle.isa.specs.declared.register.Reg.TheVariants.{Rax}
use Rattle.isa.specs.Operands.{address_meant}
use Rattle.isa.specs.Registers.{reg}
use Rattle.order_table.specs.declared.Kind.{Kind}
use Rattle.order_table.specs.declared.Kind.TheVariants as kinds
use Rattle.order_table.specs.Order.{is_kept}
use Rattle.store_buffer.specs.declared.entry.Entry.{Entry}
use Rattle.store_buffer.specs.declared.entry.Entry.TheVariants.{Write, Flush, FlushOpt, Sfence}
use Rattle.store_buffer.specs.Buffers.{kind_of, push_of}
use Rattle.persist_buffer.specs.Memories.{add_write_of, coherent}
use Rattle.outcomes.specs.Outcomes.{◌>>=◌, refuse, refused_as}
use Rattle.processor.specs.declared.act.Act.{Act}
use Rattle.processor.specs.declared.act.Act.TheVariants as acts
use Rattle.processor.specs.declared.refusal.Refusal.{Refusal}
use Rattle.processor.specs.declared.refusal.Refusal.TheVariants.{BufferNotEmpty, BufferFull, LineFull}
use Rattle.processor.specs.Accesses.{is_locked, value_read, act_of}
use Rattle.processor.specs.Contents.{Contents}
use Rattle.processor.specs.Cpus.{Cpu, next_cpu, trapped_at}
use Rattle.processor.specs.Executions.{next_instruction, waited, access_of, contents_after, effect_of, exec_of}
use Rattle.processor.specs.Instructions.{IsAccessTo, Traps, IsRunOf}
use Rattle.processor.specs.Operations.{kind_of_access, operation_of}
use Rattle.processor.proofs.InstructionsRunAsTold.{Outcome, exec_with, run_only}

pub locked_waits : (entry : Entry) (same_line : Bool) → is_kept (kind_of entry) kinds.Rmw same_line ≡ true
locked_waits (Write word value) same_line = refl
locked_waits (Flush line) same_line = refl
locked_waits (FlushOpt line) same_line = refl
locked_waits Sfence same_line = refl

pub fence_waits : (entry : Entry) (same_line : Bool) → is_kept (kind_of entry) kinds.Mfence same_line ≡ true
fence_waits (Write word value) same_line = refl
fence_waits (Flush line) same_line = refl
fence_waits (FlushOpt line) same_line = refl
fence_waits Sfence same_line = refl

pub read_passes : (entry : Entry) (same_line : Bool) → is_kept (kind_of entry) kinds.Read same_line ≡ false
read_passes (Write word value) same_line = refl
read_passes (Flush line) same_line = refl
read_passes (FlushOpt line) same_line = refl
read_passes Sfence same_line = refl

-- the kind of what an act says of itself, where that is a read or an entry
abbrev pub Fits : Act → Option Kind → Type 0
Fits (acts.Delay entry) kind = kind ≡ Some (kind_of entry)
Fits (acts.Read word value) kind = kind ≡ Some kinds.Read
Fits _ kind = Unit {0}

module _ (c d : Cpu) (s t : Contents) (act : Act) where
  shown : (kind : Option Kind) (shows : Act) → act ≡ shows → Fits shows kind → Fits act kind
  shown kind shows e fits = subst (λ (a : Act). Fits a kind) (sym e) fits

  access_fits : (word : ℕ) (access : Access) → IsAccessTo word access c s act d t → Fits act (Some (kind_of_access access))
  access_fits word (accesses.Load r) x = shown _ _ x.0 refl
  access_fits word (accesses.Store (Register r)) x = shown _ _ x.0 refl
  access_fits word (accesses.Store (Number n)) x = shown _ _ x.0 refl
  access_fits word (accesses.Locked Exchange r) x = shown _ _ x.1 tt
  access_fits word (accesses.Locked ExchangeAdd r) x = shown _ _ x.1 tt
  access_fits word (accesses.Locked CompareExchange r) x =
      elim (cases_eq (reg c.regs Rax) (coherent s.memory word)) [ inl same ↦ shown _ _ ((x.1 same).0) tt | inr other ↦ shown _ _ ((x.2 other).0) tt ]
  access_fits word (accesses.Flush Clflush) x = shown _ _ x.0 refl
  access_fits word (accesses.Flush Clflushopt) x = shown _ _ x.0 refl
  access_fits word (accesses.Flush Clwb) x = shown _ _ x.0 refl

  memory_fits : (access : Access) (address : ℕ) (o : Option ℕ) → MatchOption o (Traps c s act d t address) (λ word. IsAccessTo word access c s act d t)
      → Fits act (Some (kind_of_access access))
  memory_fits access address None x = shown _ _ x.0 tt
  memory_fits access address (Some word) x = access_fits word access x

  act_fits : (instr : Instr) → IsRunOf instr c s act d t → Fits act (operation_of instr)
  act_fits (instrs.Set r (Number value)) x = shown _ _ x.0 tt
  act_fits (instrs.Set r (Register other)) x = shown _ _ x.0 tt
  act_fits (instrs.Compute Add r value) x = shown _ _ x.0 tt
  act_fits (instrs.Compute Compare r value) x = shown _ _ x.0 tt
  act_fits (instrs.Jump Always target) x = shown _ _ x.0 tt
  act_fits (instrs.Jump IfZero target) x = shown _ _ x.0 tt
  act_fits (instrs.Jump IfNotZero target) x = shown _ _ x.0 tt
  act_fits instrs.Nop x = shown _ _ x.0 tt
  act_fits (instrs.Memory access operand) x = memory_fits access (address_meant c.regs operand) (word_at s.shape (address_meant c.regs operand)) x
  act_fits (instrs.Fence Mfence) x = shown _ _ x.1 tt
  act_fits (instrs.Fence fences.Sfence) x = shown _ _ x.0 refl

pub delays_its_kind : (program : List Instr) (c d : Cpu) (s t : Contents) (instr : Instr) (entry : Entry) → next_instruction program c ≡ Some instr
    → exec_of program c s ≡ Ok (acts.Delay entry, (d, t)) → operation_of instr ≡ Some (kind_of entry)
delays_its_kind program c d s t instr entry there e = act_fits c d s t (acts.Delay entry) instr (run_only program c d s t (acts.Delay entry) instr there e)

pub who_reads : (program : List Instr) (c d : Cpu) (s t : Contents) (instr : Instr) (word seen : ℕ) → next_instruction program c ≡ Some instr
    → exec_of program c s ≡ Ok (acts.Read word seen, (d, t)) → operation_of instr ≡ Some kinds.Read
who_reads program c d s t instr word seen there e = act_fits c d s t (acts.Read word seen) instr (run_only program c d s t (acts.Read word seen) instr there e)

locked_kind : (access : Access) → is_locked access ≡ true → kind_of_access access ≡ kinds.Rmw
locked_kind (accesses.Load r) e = absurd (cc)
locked_kind (accesses.Store source) e = absurd (cc)
locked_kind (accesses.Locked operation r) e = refl
locked_kind (accesses.Flush kind) e = absurd (cc)

some_entry : (buffer : List Entry) → not (length buffer == 0) ≡ true → buffer ≢ []
some_entry [] e = absurd (cc)
some_entry (entry ∷ entries) e = λ none. absurd (cc)

-- what is made of an outcome alone is refused as that is
refused_before : {A B : Type 0} (r : Result A Refusal) (f : A → B) (refusal : Refusal) → (r >>= λ a. Ok (f a)) ≡ Err refusal → r ≡ Err refusal
refused_before (Ok a) f refusal e = absurd (cc)
refused_before (Err other) f refusal e = cc

full_only : {A B E : Type 0} (r : Result A E) (f : A → B) → (refused_as (λ full. BufferFull) r >>= λ a. Ok (f a)) ≢ Err BufferNotEmpty
full_only (Ok a) f = λ e. absurd (cc)
full_only (Err refusal) f = λ e. absurd (cc)

line_full_only : {A B E : Type 0} (r : Result A E) (f : A → B) → (refused_as (λ full. LineFull) r >>= λ a. Ok (f a)) ≢ Err BufferNotEmpty
line_full_only (Ok a) f = λ e. absurd (cc)
line_full_only (Err refusal) f = λ e. absurd (cc)

-- no act is refused for entries in the store buffer
no_act_waits : (act : Act) (s : Contents) → contents_after act s ≢ Err BufferNotEmpty
no_act_waits (acts.Delay entry) s = full_only (push_of s.buffer entry) _
no_act_waits (acts.Locked word value (Some new)) s = line_full_only (add_write_of s.memory word new) _
no_act_waits (acts.Locked word value None) s = λ e. absurd (cc)
no_act_waits (acts.Read word value) s = λ e. absurd (cc)
no_act_waits acts.Fence s = λ e. absurd (cc)
no_act_waits acts.Local s = λ e. absurd (cc)
no_act_waits (acts.Trap address) s = λ e. absurd (cc)

-- what is refused for entries in the store buffer, and not by what follows, waited
waits_where : {A : Type 0} (q : Bool) (next : Result A Refusal) → next ≢ Err BufferNotEmpty → (refuse BufferNotEmpty q >>= λ drained. next) ≡ Err BufferNotEmpty → q ≡ true
waits_where true next passes e = refl
waits_where false next passes e = absurd (passes e)

abbrev Waits : Instr → Contents → Type 0
Waits instr s = ((operation_of instr ≡ Some kinds.Rmw) ⊎ (operation_of instr ≡ Some kinds.Mfence)) × (s.buffer ≢ [])

module _ (c : Cpu) (s : Contents) where
  abbrev Refused : Outcome → Type 0
  Refused r = ◌≡◌ {A = Outcome} r (Err BufferNotEmpty)

  word_waits : (access : Access) (operand : MemoryOperand) (word : ℕ) → Refused (waited (is_locked access) (length s.buffer == 0) (access_of access word c s)) → Waits (instrs.Memory access operand) s
  word_waits access operand word e =
      let shows = act_of access word c.regs (value_read access word s) in
      let passes : access_of access word c s ≢ Err BufferNotEmpty = λ refused. no_act_waits shows s (refused_before (contents_after shows s) _ BufferNotEmpty refused) in
      let parts = and_parts (is_locked access) (not (length s.buffer == 0)) (waits_where _ (access_of access word c s) passes e) in
      (inl (ap (λ (k : Kind). Some k) (locked_kind access parts.0)), some_entry s.buffer parts.1)

  memory_waits : (access : Access) (operand : MemoryOperand) (address : ℕ) (o : Option ℕ)
      → Refused (option_map_or (λ word. waited (is_locked access) (length s.buffer == 0) (access_of access word c s)) o (Ok (acts.Trap address, (trapped_at c address, s))))
      → Waits (instrs.Memory access operand) s
  memory_waits access operand address None e = absurd (cc)
  memory_waits access operand address (Some word) e = word_waits access operand word e

  effect_waits : (instr : Instr) → Refused (effect_of instr c s) → Waits instr s
  effect_waits (instrs.Memory access operand) e = memory_waits access operand (address_meant c.regs operand) (word_at s.shape (address_meant c.regs operand)) e
  effect_waits (instrs.Fence Mfence) e = (inr refl, some_entry s.buffer (waits_where _ (Ok (acts.Fence, (next_cpu c Following c.regs, s))) (λ refused. absurd (cc)) e))
  effect_waits (instrs.Fence fences.Sfence) e = absurd (no_act_waits (acts.Delay Sfence) s (refused_before (contents_after (acts.Delay Sfence) s) _ BufferNotEmpty e))
  effect_waits (instrs.Set r source) e = absurd (cc)
  effect_waits (instrs.Compute operation r number) e = absurd (cc)
  effect_waits (instrs.Jump kind target) e = absurd (cc)
  effect_waits instrs.Nop e = absurd (cc)

pub who_waits : (program : List Instr) (c : Cpu) (s : Contents) (instr : Instr) → next_instruction program c ≡ Some instr
    → exec_of program c s ≡ Err BufferNotEmpty → ((operation_of instr ≡ Some kinds.Rmw) ⊎ (operation_of instr ≡ Some kinds.Mfence)) × (s.buffer ≢ [])
who_waits program c s instr there e = effect_waits c s instr (sym (ap (exec_with c s) there) ∙ e)

abbrev Passes : Instr → Type 0
Passes instr = (operation_of instr ≢ Some kinds.Rmw) × (operation_of instr ≢ Some kinds.Mfence)

module _ (c d : Cpu) (s t : Contents) (act : Act) (some : s.buffer ≢ []) (untrapped : d.trap ≡ None) where
  access_passes : (word : ℕ) (access : Access) (operand : MemoryOperand) → IsAccessTo word access c s act d t → Passes (instrs.Memory access operand)
  access_passes word (accesses.Load r) operand x = (λ same. absurd (cc), λ same. absurd (cc))
  access_passes word (accesses.Store source) operand x = (λ same. absurd (cc), λ same. absurd (cc))
  access_passes word (accesses.Locked Exchange r) operand x = absurd (some x.0)
  access_passes word (accesses.Locked ExchangeAdd r) operand x = absurd (some x.0)
  access_passes word (accesses.Locked CompareExchange r) operand x = absurd (some x.0)
  access_passes word (accesses.Flush Clflush) operand x = (λ same. absurd (cc), λ same. absurd (cc))
  access_passes word (accesses.Flush Clflushopt) operand x = (λ same. absurd (cc), λ same. absurd (cc))
  access_passes word (accesses.Flush Clwb) operand x = (λ same. absurd (cc), λ same. absurd (cc))

  memory_passes : (access : Access) (operand : MemoryOperand) (address : ℕ) (o : Option ℕ)
      → MatchOption o (Traps c s act d t address) (λ word. IsAccessTo word access c s act d t) → Passes (instrs.Memory access operand)
  memory_passes access operand address None x =
      let trapped : d.trap ≡ Some address = ap (λ (y : Cpu). y.trap) x.1 in
      absurd (cc)
  memory_passes access operand address (Some word) x = access_passes word access operand x

  run_passes : (instr : Instr) → IsRunOf instr c s act d t → Passes instr
  run_passes (instrs.Memory access operand) x = memory_passes access operand (address_meant c.regs operand) (word_at s.shape (address_meant c.regs operand)) x
  run_passes (instrs.Fence Mfence) x = absurd (some x.0)
  run_passes (instrs.Fence fences.Sfence) x = (λ same. absurd (cc), λ same. absurd (cc))
  run_passes (instrs.Set r source) x = (λ same. absurd (cc), λ same. absurd (cc))
  run_passes (instrs.Compute operation r number) x = (λ same. absurd (cc), λ same. absurd (cc))
  run_passes (instrs.Jump kind target) x = (λ same. absurd (cc), λ same. absurd (cc))
  run_passes instrs.Nop x = (λ same. absurd (cc), λ same. absurd (cc))

pub who_passes : (program : List Instr) (c d : Cpu) (s t : Contents) (act : Act) (instr : Instr) → next_instruction program c ≡ Some instr
    → exec_of program c s ≡ Ok (act, (d, t)) → s.buffer ≢ [] → d.trap ≡ None → (operation_of instr ≢ Some kinds.Rmw) × (operation_of instr ≢ Some kinds.Mfence)
who_passes program c d s t act instr there e some untrapped = run_passes c d s t act some untrapped instr (run_only program c d s t act instr there e)
