-- An instruction does what the relation by cases says, and nothing else.
use Rattle.std.proofs.Common.{◌≡◌, ◌≢◌, ℕ, ◌<◌, arith, Bool, true, false, Option, Some, None, Result, Ok, Err, List, [], ◌∷◌, ◌++◌, length, refl, sym, ◌∙◌, ap, subst}
use Rattle.std.specs.Prelude.{nat_le, not, ◌&&◌, ◌==◌, count_by, if◌then◌else◌, MatchOption}
use Rattle.std.specs.Option.{option_map_or}
use Rattle.std.proofs.lemmas.Bool.{eqb-true, eq-eqb}
use Rattle.std.proofs.lemmas.Bool.Decides.{nat_tests}
use Rattle.lines_layout.specs.Lines.{line_of, word_at}
use Rattle.isa.specs.declared.instr.Instr.{Instr}
use Rattle.isa.specs.declared.instr.Instr.TheVariants as instrs
use Rattle.isa.specs.declared.instr.Computation.TheVariants.{Add, Compare}
use Rattle.isa.specs.declared.instr.FenceKind.TheVariants.{Mfence, Sfence}
use Rattle.isa.specs.declared.instr.FlushKind.TheVariants.{Clflush, Clflushopt, Clwb}
use Rattle.isa.specs.declared.instr.JumpKind.TheVariants.{Always, IfZero, IfNotZero}
use Rattle.isa.specs.declared.instr.LockedOperation.TheVariants.{Exchange, ExchangeAdd, CompareExchange}
use Rattle.isa.specs.declared.instr.Source.TheVariants.{Register, Number}
use Rattle.isa.specs.declared.instr.Next.TheVariants.{Following, Target}
use Rattle.isa.specs.declared.register.Reg.{Reg}
use Rattle.isa.specs.declared.register.Reg.TheVariants.{Rax}
use Rattle.isa.specs.declared.instr.MemoryOperand.{MemoryOperand}
use Rattle.isa.specs.declared.instr.Access.{Access}
use Rattle.isa.specs.declared.instr.Access.TheVariants as accesses
use Rattle.isa.specs.Operands.{address_meant}
use Rattle.isa.specs.Registers.{reg, with_reg, with_zero, word_sum}
use Rattle.store_buffer.specs.declared.entry.Entry.{Entry}
use Rattle.store_buffer.specs.declared.entry.Entry.TheVariants as entries
use Rattle.store_buffer.specs.Buffers.{buffer_room}
use Rattle.persist_buffer.specs.declared.entry.PendingEntry.TheVariants.{Write}
use Rattle.persist_buffer.specs.Limits.{line_room}
use Rattle.persist_buffer.specs.Memories.{coherent, is_write_on}
use Rattle.persist_buffer.proofs.NewestWrites.{pending_read}
use Rattle.outcomes.specs.Outcomes.{◌>>=◌, refuse, required}
use Rattle.outcomes.proofs.PartsOfOutcomes.{answer_of, bind_ok}
use Rattle.processor.specs.declared.act.Act.{Act}
use Rattle.processor.specs.declared.act.Act.TheVariants.{Local, Fence, Delay, Locked, Trap}
use Rattle.processor.specs.declared.refusal.Refusal.{Refusal}
use Rattle.processor.specs.declared.refusal.Refusal.TheVariants.{Halted, BufferNotEmpty}
use Rattle.processor.specs.Contents.{Contents}
use Rattle.processor.specs.Cpus.{Cpu, next_cpu, trapped_at}
use Rattle.processor.specs.Accesses.{is_locked, value_read, act_of}
use Rattle.processor.specs.Executions.{next_instruction, waited, access_of, contents_after, effect_of, exec_of}
use Rattle.processor.specs.Acts.{IsShown, IsDelayed, IsWritten}
use Rattle.processor.specs.Instructions.{IsAccessTo, Traps, IsRunOf}
use Rattle.processor.proofs.ActsShowAll.{Before, waited_if, empty_of, left_shown}

abbrev pub Outcome : Type 0
Outcome = Result (Act × (Cpu × Contents)) Refusal

abbrev shows_with : Act → Cpu → Contents → Outcome
shows_with shows x s = contents_after shows s >>= λ after. Ok (shows, (x, after))

module _ (c d : Cpu) (s t : Contents) (act : Act) where
  abbrev Done : Outcome → Type 0
  Done r = ◌≡◌ {A = Outcome} r (Ok (act, (d, t)))

  local_done : (x : Cpu) → Done (Ok (Local, (x, s))) → (act ≡ Local) × (d ≡ x) × (t ≡ s)
  local_done x e =
      let parts = answer_of Local act (x, s) (d, t) e in
      (parts.0, ap (λ (p : Cpu × Contents). p.0) parts.1, ap (λ (p : Cpu × Contents). p.1) parts.1)

  access_done : (shows : Act) (x : Cpu) → Before shows s → Done (shows_with shows x s) → (act ≡ shows) × (d ≡ x) × IsShown shows s t
  access_done shows x before e =
      let b = bind_ok (contents_after shows s) (λ after. Ok (shows, (x, after))) (act, (d, t)) e in
      let parts = answer_of shows act (x, b.0) (d, t) b.2 in
      let same : t ≡ b.0 = ap (λ (p : Cpu × Contents). p.1) parts.1 in
      (parts.0, ap (λ (p : Cpu × Contents). p.0) parts.1, left_shown shows s t before (b.1 ∙ ap (λ (y : Contents). Ok y) (sym same)))

  abbrev compare_with : ℕ → ℕ → Reg → Bool → Outcome
  compare_with word value r equal =
      shows_with (Locked word value (if equal then Some (reg c.regs r) else None))
      (next_cpu c Following (if equal then with_zero c.regs true else with_zero (with_reg c.regs Rax value) false)) s

  compare_done : (operand_word : ℕ) (r : Reg) (equal : Bool) → (reg c.regs Rax == coherent s.memory operand_word) ≡ equal → s.buffer ≡ []
      → Done (compare_with operand_word (coherent s.memory operand_word) r equal)
      → (reg c.regs Rax ≡ coherent s.memory operand_word
      → (act ≡ Locked operand_word (coherent s.memory operand_word) (Some (reg c.regs r))) × (d ≡ next_cpu c Following (with_zero c.regs true)) × IsWritten s t operand_word (reg c.regs r))
      × (reg c.regs Rax ≢ coherent s.memory operand_word
      → (act ≡ Locked operand_word (coherent s.memory operand_word) None) × (d ≡ next_cpu c Following (with_zero (with_reg c.regs Rax (coherent s.memory operand_word)) false)) × (t ≡ s))
  compare_done word r true is empty e =
      let a = access_done (Locked word (coherent s.memory word) (Some (reg c.regs r))) _ (empty, refl) e in
      (λ same. (a.0, a.1, a.2.2), λ other. absurd (other (eqb-true _ _ is)))
  compare_done word r false is empty e =
      let a = access_done (Locked word (coherent s.memory word) None) _ (empty, refl) e in
      (λ same. absurd (apart same), λ other. (a.0, a.1, a.2.2))
    where
      apart : reg c.regs Rax ≡ coherent s.memory word → ⊥
      apart same =
          let equal : (reg c.regs Rax == coherent s.memory word) ≡ true = eq-eqb _ _ same in
          absurd (cc)

  jumps_if : (target : ℕ) (taken zero : Bool) → taken ≡ zero → next_cpu c (if taken then Target target else Following) c.regs ≡ next_cpu c (if zero then Target target else Following) c.regs
  jumps_if target taken zero is = ap (λ (z : Bool). next_cpu c (if z then Target target else Following) c.regs) is

  access_case : (word : ℕ) (access : Access) → (is_locked access && not (length s.buffer == 0)) ≡ false → Done (access_of access word c s) → IsAccessTo word access c s act d t
  access_case word (accesses.Load r) w e = let a = access_done (act_of (accesses.Load r) word c.regs (value_read (accesses.Load r) word s)) _ refl e in (a.0, a.1, a.2.1)
  access_case word (accesses.Store (Register r)) w e = access_done (act_of (accesses.Store (Register r)) word c.regs 0) _ tt e
  access_case word (accesses.Store (Number n)) w e = access_done (act_of (accesses.Store (Number n)) word c.regs 0) _ tt e
  access_case word (accesses.Locked Exchange r) w e =
      let empty = empty_of s.buffer w in
      let a = access_done (act_of (accesses.Locked Exchange r) word c.regs (coherent s.memory word)) _ (empty, refl) e in
      (empty, a.0, a.1, a.2.2)
  access_case word (accesses.Locked ExchangeAdd r) w e =
      let empty = empty_of s.buffer w in
      let a = access_done (act_of (accesses.Locked ExchangeAdd r) word c.regs (coherent s.memory word)) _ (empty, refl) e in
      (empty, a.0, a.1, a.2.2)
  access_case word (accesses.Locked CompareExchange r) w e =
      let empty = empty_of s.buffer w in
      let both = compare_done word r (reg c.regs Rax == coherent s.memory word) refl empty e in
      (empty, both.0, both.1)
  access_case word (accesses.Flush Clflush) w e = access_done (act_of (accesses.Flush Clflush) word c.regs 0) _ tt e
  access_case word (accesses.Flush Clflushopt) w e = access_done (act_of (accesses.Flush Clflushopt) word c.regs 0) _ tt e
  access_case word (accesses.Flush Clwb) w e = access_done (act_of (accesses.Flush Clwb) word c.regs 0) _ tt e

  memory_done : (access : Access) (address : ℕ) (o : Option ℕ) → word_at s.shape address ≡ o
      → Done (option_map_or (λ word. waited (is_locked access) (length s.buffer == 0) (access_of access word c s)) o (Ok (Trap address, (trapped_at c address, s))))
      → MatchOption o (Traps c s act d t address) (λ word. IsAccessTo word access c s act d t)
  memory_done access address None none e = let a = access_done (Trap address) (trapped_at c address) none e in (a.0, a.1, a.2.1)
  memory_done access address (Some word) there e =
      let w = waited_if (is_locked access && not (length s.buffer == 0)) (access_of access word c s) (act, (d, t)) e in
      access_case word access w.0 w.1

  effect_done : (instr : Instr) → Done (effect_of instr c s) → IsRunOf instr c s act d t
  effect_done (instrs.Set r (Number value)) e = local_done _ e
  effect_done (instrs.Set r (Register other)) e = local_done _ e
  effect_done (instrs.Compute Add r value) e = local_done _ e
  effect_done (instrs.Compute Compare r value) e = local_done _ e
  effect_done (instrs.Jump Always target) e = local_done _ e
  effect_done (instrs.Jump IfZero target) e =
      let l = local_done _ e in
      (l.0, λ set. l.1 ∙ jumps_if target c.regs.zero true set, λ clear. l.1 ∙ jumps_if target c.regs.zero false clear, l.2)
  effect_done (instrs.Jump IfNotZero target) e =
      let l = local_done _ e in
      (l.0, λ clear. l.1 ∙ jumps_if target (not c.regs.zero) true (ap not clear), λ set. l.1 ∙ jumps_if target (not c.regs.zero) false (ap not set), l.2)
  effect_done instrs.Nop e = local_done _ e
  effect_done (instrs.Memory access operand) e = memory_done access (address_meant c.regs operand) (word_at s.shape (address_meant c.regs operand)) refl e
  effect_done (instrs.Fence Mfence) e =
      let w = waited_if (not (length s.buffer == 0)) (Ok (Fence, (next_cpu c Following c.regs, s))) (act, (d, t)) e in
      let a = access_done Fence _ (empty_of s.buffer w.0) w.1 in
      (a.2.0, a.0, a.1, a.2.1)
  effect_done (instrs.Fence Sfence) e = access_done (Delay entries.Sfence) _ tt e

-- what an execution comes to, where the instruction is known
abbrev pub exec_with : Cpu → Contents → Option Instr → Outcome
exec_with c s there = required Halted there >>= λ i. effect_of i c s

pub run_only : (program : List Instr) (c d : Cpu) (s t : Contents) (act : Act) (instr : Instr) → next_instruction program c ≡ Some instr
    → exec_of program c s ≡ Ok (act, (d, t)) → IsRunOf instr c s act d t
run_only program c d s t act instr there e = effect_done c d s t act instr (sym (ap (exec_with c s) there) ∙ e)

-- the other way: what the relation says is what the instruction does
module _ (c d : Cpu) (s t : Contents) (act : Act) where
  abbrev Ran : Outcome → Type 0
  Ran r = ◌≡◌ {A = Outcome} r (Ok (act, (d, t)))

  ran_with : (shows : Act) (x : Cpu) (left : Result Contents Refusal) → act ≡ shows → left ≡ Ok t → d ≡ x → Ran (left >>= λ after. Ok (shows, (x, after)))
  ran_with shows x left shown is same = ap (λ (l : Result Contents Refusal). l >>= λ after. Ok (shows, (x, after))) is ∙ (λ k. Ok (sym shown k, (sym same k, t)))

  local_ran : (x : Cpu) → act ≡ Local → d ≡ x → t ≡ s → Ran (Ok (Local, (x, s)))
  local_ran x shown same still = λ k. Ok (sym shown k, (sym same k, sym still k))

  room_left : (n room : ℕ) → n < room → nat_le room n ≡ false
  room_left n room h = grind (arith, nat_tests)

  delay_ran : (entry : Entry) → IsDelayed s t entry → contents_after (Delay entry) s ≡ Ok t
  delay_ran entry x =
      let whole : record { shape = s.shape; buffer = s.buffer ++ entry ∷ []; memory = s.memory } ≡ t = λ k. record { shape = sym x.shape k; buffer = sym x.buffer k; memory = sym x.memory k } in
      rw (room_left (length s.buffer) buffer_room x.room) (ap (λ (y : Contents). Ok y) whole)

  write_ran : (word value new : ℕ) → IsWritten s t word new → contents_after (Locked word value (Some new)) s ≡ Ok t
  write_ran word value new x =
      let whole : record { shape = s.shape; buffer = s.buffer; memory = record { pending = s.memory.pending ++ Write word new ∷ []; persisted = s.memory.persisted } } ≡ t =
      λ k. record { shape = sym x.shape k; buffer = sym x.buffer k; memory = record { pending = sym x.pending k; persisted = sym x.persisted k } } in
      rw (room_left (count_by (is_write_on (line_of word)) s.memory.pending) line_room x.room) (ap (λ (y : Contents). Ok y) whole)

  delayed_ran : (entry : Entry) → act ≡ Delay entry → d ≡ next_cpu c Following c.regs → IsDelayed s t entry → Ran (shows_with (Delay entry) (next_cpu c Following c.regs) s)
  delayed_ran entry shown same x = ran_with (Delay entry) (next_cpu c Following c.regs) (contents_after (Delay entry) s) shown (delay_ran entry x) same

  none_waits : s.buffer ≡ [] → not (length s.buffer == 0) ≡ false
  none_waits empty = ap (λ (b : List Entry). not (length b == 0)) empty

  waited_ran : (next : Outcome) → s.buffer ≡ [] → Ran next → Ran (refuse BufferNotEmpty (not (length s.buffer == 0)) >>= λ drained. next)
  waited_ran next empty r = ap (λ (q : Bool). refuse BufferNotEmpty q >>= λ drained. next) (none_waits empty) ∙ r

  written_ran : (word value new : ℕ) (x : Cpu) → act ≡ Locked word value (Some new) → d ≡ x → IsWritten s t word new → Ran (shows_with (Locked word value (Some new)) x s)
  written_ran word value new x shown same w =
      ran_with (Locked word value (Some new)) x (contents_after (Locked word value (Some new)) s) shown (write_ran word value new w) same

  unwritten_ran : (word value : ℕ) (x : Cpu) → act ≡ Locked word value None → d ≡ x → t ≡ s → Ran (shows_with (Locked word value None) x s)
  unwritten_ran word value x shown same still = λ k. Ok (sym shown k, (sym same k, sym still k))

  abbrev compare_shows : ℕ → ℕ → Reg → Bool → Outcome
  compare_shows word value r equal =
      shows_with (Locked word value (if equal then Some (reg c.regs r) else None))
      (next_cpu c Following (if equal then with_zero c.regs true else with_zero (with_reg c.regs Rax value) false)) s

  compare_ran : (word : ℕ) (r : Reg) (equal : Bool) → (reg c.regs Rax == coherent s.memory word) ≡ equal
      → (reg c.regs Rax ≡ coherent s.memory word → (act ≡ Locked word (coherent s.memory word) (Some (reg c.regs r))) × (d ≡ next_cpu c Following (with_zero c.regs true)) × IsWritten s t word (reg c.regs r))
      → (reg c.regs Rax ≢ coherent s.memory word → (act ≡ Locked word (coherent s.memory word) None) × (d ≡ next_cpu c Following (with_zero (with_reg c.regs Rax (coherent s.memory word)) false)) × (t ≡ s))
      → Ran (compare_shows word (coherent s.memory word) r equal)
  compare_ran word r true is same other =
      let x = same (eqb-true _ _ is) in
      written_ran word (coherent s.memory word) (reg c.regs r) _ x.0 x.1 x.2
  compare_ran word r false is same other =
      let x = other apart in
      unwritten_ran word (coherent s.memory word) _ x.0 x.1 x.2
    where
      apart : reg c.regs Rax ≡ coherent s.memory word → ⊥
      apart equal =
          let clash : (reg c.regs Rax == coherent s.memory word) ≡ true = eq-eqb _ _ equal in
          absurd (cc)

  jump_ran : (target : ℕ) (zero : Bool) → c.regs.zero ≡ zero → (c.regs.zero ≡ true → d ≡ next_cpu c (Target target) c.regs)
      → (c.regs.zero ≡ false → d ≡ next_cpu c Following c.regs) → d ≡ next_cpu c (if zero then Target target else Following) c.regs
  jump_ran target true is set clear = set is
  jump_ran target false is set clear = clear is

  jump_not_ran : (target : ℕ) (zero : Bool) → c.regs.zero ≡ zero → (c.regs.zero ≡ false → d ≡ next_cpu c (Target target) c.regs)
      → (c.regs.zero ≡ true → d ≡ next_cpu c Following c.regs) → d ≡ next_cpu c (if not zero then Target target else Following) c.regs
  jump_not_ran target true is clear set = set is
  jump_not_ran target false is clear set = clear is

  access_ran : (word : ℕ) (access : Access) → IsAccessTo word access c s act d t → Ran (waited (is_locked access) (length s.buffer == 0) (access_of access word c s))
  access_ran word (accesses.Load r) x = λ k. Ok (sym x.0 k, (sym x.1 k, sym x.2 k))
  access_ran word (accesses.Store (Register r)) x = delayed_ran _ x.0 x.1 x.2
  access_ran word (accesses.Store (Number n)) x = delayed_ran _ x.0 x.1 x.2
  access_ran word (accesses.Locked Exchange r) x = waited_ran _ x.0 (written_ran word (coherent s.memory word) _ _ x.1 x.2 x.3)
  access_ran word (accesses.Locked ExchangeAdd r) x = waited_ran _ x.0 (written_ran word (coherent s.memory word) _ _ x.1 x.2 x.3)
  access_ran word (accesses.Locked CompareExchange r) x = waited_ran _ x.0 (compare_ran word r (reg c.regs Rax == coherent s.memory word) refl x.1 x.2)
  access_ran word (accesses.Flush Clflush) x = delayed_ran _ x.0 x.1 x.2
  access_ran word (accesses.Flush Clflushopt) x = delayed_ran _ x.0 x.1 x.2
  access_ran word (accesses.Flush Clwb) x = delayed_ran _ x.0 x.1 x.2

  memory_ran : (access : Access) (address : ℕ) (o : Option ℕ)
      → MatchOption o (Traps c s act d t address) (λ word. IsAccessTo word access c s act d t)
      → Ran (option_map_or (λ word. waited (is_locked access) (length s.buffer == 0) (access_of access word c s)) o (Ok (Trap address, (trapped_at c address, s))))
  memory_ran access address None x = λ k. Ok (sym x.0 k, (sym x.1 k, sym x.2 k))
  memory_ran access address (Some word) x = access_ran word access x

  effect_ran : (instr : Instr) → IsRunOf instr c s act d t → Ran (effect_of instr c s)
  effect_ran (instrs.Set r (Number value)) x = local_ran _ x.0 x.1 x.2
  effect_ran (instrs.Set r (Register other)) x = local_ran _ x.0 x.1 x.2
  effect_ran (instrs.Compute Add r value) x = local_ran _ x.0 x.1 x.2
  effect_ran (instrs.Compute Compare r value) x = local_ran _ x.0 x.1 x.2
  effect_ran (instrs.Jump Always target) x = local_ran _ x.0 x.1 x.2
  effect_ran (instrs.Jump IfZero target) x = local_ran _ x.0 (jump_ran target c.regs.zero refl x.1 x.2) x.3
  effect_ran (instrs.Jump IfNotZero target) x = local_ran _ x.0 (jump_not_ran target c.regs.zero refl x.1 x.2) x.3
  effect_ran instrs.Nop x = local_ran _ x.0 x.1 x.2
  effect_ran (instrs.Memory access operand) x = memory_ran access (address_meant c.regs operand) (word_at s.shape (address_meant c.regs operand)) x
  effect_ran (instrs.Fence Mfence) x = waited_ran (Ok (Fence, (next_cpu c Following c.regs, s))) x.0 (λ k. Ok (sym x.1 k, (sym x.2 k, sym x.3 k)))
  effect_ran (instrs.Fence Sfence) x = delayed_ran _ x.0 x.1 x.2

pub run_always : (program : List Instr) (c d : Cpu) (s t : Contents) (act : Act) (instr : Instr) → next_instruction program c ≡ Some instr
    → IsRunOf instr c s act d t → exec_of program c s ≡ Ok (act, (d, t))
run_always program c d s t act instr there x = ap (exec_with c s) there ∙ effect_ran c d s t act instr x

pub halted : (program : List Instr) (c : Cpu) (s : Contents) → next_instruction program c ≡ None → exec_of program c s ≡ Err Halted
halted program c s none = ap (exec_with c s) none

-- what an access comes to, where the word of its address is known
abbrev memory_with : Access → ℕ → Cpu → Contents → Option ℕ → Outcome
memory_with access address c s o = option_map_or (λ word. waited (is_locked access) (length s.buffer == 0) (access_of access word c s)) o (Ok (Trap address, (trapped_at c address, s)))

pub traps : (program : List Instr) (c : Cpu) (s : Contents) (access : Access) (operand : MemoryOperand) → next_instruction program c ≡ Some (instrs.Memory access operand)
    → word_at s.shape (address_meant c.regs operand) ≡ None → exec_of program c s ≡ Ok (Trap (address_meant c.regs operand), (record c { trap = Some (address_meant c.regs operand) }, s))
traps program c s access operand there none = ap (exec_with c s) there ∙ ap (memory_with access (address_meant c.regs operand) c s) none

some_there : (n : ℕ) → 0 < n → not (n == 0) ≡ true
some_there n h = grind (arith, nat_tests)

not_empty : (buffer : List Entry) → buffer ≢ [] → not (length buffer == 0) ≡ true
not_empty [] some = absurd (some refl)
not_empty (entry ∷ entries) some = some_there (length (entry ∷ entries)) (omega arith)

abbrev waits_with : Bool → Outcome → Outcome
waits_with q next = refuse BufferNotEmpty q >>= λ drained. next

pub waits : (program : List Instr) (c : Cpu) (s : Contents) (access : Access) (operand : MemoryOperand) (word : ℕ) → next_instruction program c ≡ Some (instrs.Memory access operand)
    → word_at s.shape (address_meant c.regs operand) ≡ Some word → is_locked access ≡ true → s.buffer ≢ [] → exec_of program c s ≡ Err BufferNotEmpty
waits program c s access operand word there found needs some =
    let both : (is_locked access && not (length s.buffer == 0)) ≡ true = rw needs (not_empty s.buffer some) in
    ap (exec_with c s) there ∙ ap (memory_with access (address_meant c.regs operand) c s) found ∙ ap (λ (q : Bool). waits_with q (access_of access word c s)) both

pub fence_waits : (program : List Instr) (c : Cpu) (s : Contents) → next_instruction program c ≡ Some (instrs.Fence Mfence) → s.buffer ≢ [] → exec_of program c s ≡ Err BufferNotEmpty
fence_waits program c s there some = ap (exec_with c s) there ∙ ap (λ (q : Bool). waits_with q (Ok (Fence, (next_cpu c Following c.regs, s)))) (not_empty s.buffer some)

-- what was written at once is read at once
pub written_read : (s t : Contents) (word value : ℕ) → IsWritten s t word value → coherent t.memory word ≡ value
written_read s t word value w = pending_read t.memory word value s.memory.pending [] w.pending refl

module _ (program : List Instr) (c d : Cpu) (s t : Contents) (act : Act) (operand : MemoryOperand) (r : Reg) (word : ℕ) where
  -- what is known of an access, where the word of its address is known
  at_word : (access : Access) → word_at s.shape (address_meant c.regs operand) ≡ Some word → IsRunOf (instrs.Memory access operand) c s act d t → IsAccessTo word access c s act d t
  at_word access found x = subst (λ (o : Option ℕ). MatchOption o (Traps c s act d t (address_meant c.regs operand)) (λ w. IsAccessTo w access c s act d t)) found x

  pub failing_compare : next_instruction program c ≡ Some (instrs.Memory (accesses.Locked CompareExchange r) operand) → word_at s.shape (address_meant c.regs operand) ≡ Some word
      → reg c.regs Rax ≢ coherent s.memory word → exec_of program c s ≡ Ok (act, (d, t)) → t ≡ s
  failing_compare there found other e =
      let ran = at_word (accesses.Locked CompareExchange r) found (run_only program c d s t act (instrs.Memory (accesses.Locked CompareExchange r) operand) there e) in
      (ran.2 other).2

  pub sums : next_instruction program c ≡ Some (instrs.Memory (accesses.Locked ExchangeAdd r) operand) → word_at s.shape (address_meant c.regs operand) ≡ Some word
      → word_sum (coherent s.memory word) (reg c.regs r) ≡ 0 → exec_of program c s ≡ Ok (act, (d, t)) → (coherent t.memory word ≡ 0) × (d.regs.zero ≡ true)
  sums there found none e =
      let ran = at_word (accesses.Locked ExchangeAdd r) found (run_only program c d s t act (instrs.Memory (accesses.Locked ExchangeAdd r) operand) there e) in
      let sum = word_sum (coherent s.memory word) (reg c.regs r) in
      let flag : d.regs.zero ≡ (sum == 0) = ap (λ (x : Cpu). x.regs.zero) ran.2 in
      (written_read s t word sum ran.3 ∙ none, flag ∙ eq-eqb sum 0 none)
