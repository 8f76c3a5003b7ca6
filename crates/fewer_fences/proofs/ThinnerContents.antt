-- An instruction does over a thinner store buffer and memory what it does over the others; and a nop does what a flush or a fence does but to these.
use Rattle.std.proofs.Common.{◌≡◌, ◌≢◌, ℕ, Bool, true, false, Option, Some, None, List, [], ◌∷◌, ◌++◌, refl, sym, ◌∙◌, ap, subst, arith, inl, inr, true≢false, append-nil}
use Rattle.std.specs.Prelude.{◌==◌, MatchOption, unwrap_or}
use Rattle.std.proofs.lemmas.Bool.{and_parts, eqb-true, eq-eqb}
use Rattle.lines_layout.specs.Lines.{address_of, line_of, word_at}
use Rattle.lines_layout.proofs.Addresses.{word_again}
use Rattle.isa.specs.declared.instr.Access.{Access}
use Rattle.isa.specs.declared.instr.Access.TheVariants as accesses
use Rattle.isa.specs.declared.instr.Computation.TheVariants.{Add, Compare}
use Rattle.isa.specs.declared.instr.FenceKind.TheVariants.{Mfence, Sfence}
use Rattle.isa.specs.declared.instr.FlushKind.{FlushKind}
use Rattle.isa.specs.declared.instr.FlushKind.TheVariants.{Clflush, Clflushopt, Clwb}
use Rattle.isa.specs.declared.instr.Instr.{Instr}
use Rattle.isa.specs.declared.instr.Instr.TheVariants as instrs
use Rattle.isa.specs.declared.instr.JumpKind.TheVariants.{Always, IfZero, IfNotZero}
use Rattle.isa.specs.declared.instr.LockedOperation.TheVariants.{Exchange, ExchangeAdd, CompareExchange}
use Rattle.isa.specs.declared.instr.MemoryOperand.TheVariants as operands
use Rattle.isa.specs.declared.instr.Source.TheVariants.{Register, Number}
use Rattle.isa.specs.declared.register.Reg.{Reg}
use Rattle.isa.specs.declared.register.Reg.TheVariants.{Rax}
use Rattle.isa.specs.Loadables.{names_its_words}
use Rattle.isa.specs.Operands.{address_meant}
use Rattle.isa.specs.Registers.{reg, with_reg, with_zero, word_sum}
use Rattle.store_buffer.specs.declared.entry.Entry.{Entry}
use Rattle.store_buffer.specs.declared.entry.Entry.TheVariants as entries
use Rattle.store_buffer.specs.Buffers as buffers
use Rattle.store_buffer.specs.Buffers.{buffer_room}
use Rattle.persist_buffer.specs.declared.entry.PendingEntry.{PendingEntry}
use Rattle.persist_buffer.specs.declared.entry.PendingEntry.TheVariants.{Write}
use Rattle.persist_buffer.specs.Memories.{coherent, is_marker, is_write_on}
use Rattle.processor.specs.declared.act.Act.{Act}
use Rattle.processor.specs.declared.act.Act.TheVariants.{Locked, Read}
use Rattle.processor.specs.Contents.{Contents, seen_value}
use Rattle.processor.specs.Cpus.{Cpu}
use Rattle.processor.specs.Acts.{IsDelayed, IsWritten}
use Rattle.processor.specs.Instructions.{Delays, GoesOn, IsAccessTo, IsRunOf, Traps}
use Rattle.fewer_fences.specs.Thinner.{IsThinnerMemory, Thins, is_no_write, may_be_nop, may_be_nop_on}
use Rattle.fewer_fences.proofs.ThinnedLists.{thins_count, thins_joined, thins_length, thins_newest}
use Rattle.fewer_fences.proofs.ThinnerMemories.{same_coherent}

-- what a processor reads and writes, and the same with fewer flushes and fences buffered and fewer markers pending
pub record IsThinnerContents (s u : Contents) : Type 0 where
  pub shape : u.shape ≡ s.shape
  pub buffer : Thins is_no_write s.buffer u.buffer
  pub memory : IsThinnerMemory s.memory u.memory

same_thinner : (s t u : Contents) → t ≡ s → IsThinnerContents s u → IsThinnerContents t u
same_thinner s t u e h = subst (λ (x : Contents). IsThinnerContents x u) (sym e) h

-- ---- values

no_value : (word : ℕ) (e : Entry) → is_no_write e ≡ true → buffers.value_to word e ≡ None
no_value word (entries.Write target value) is = absurd (true≢false (sym is))
no_value word (entries.Flush line) is = refl
no_value word (entries.FlushOpt line) is = refl
no_value word entries.Sfence is = refl

same_seen : (s u : Contents) (word : ℕ) → IsThinnerContents s u → seen_value u word ≡ seen_value s word
same_seen s u word h =
    λ i. unwrap_or (thins_newest is_no_write (buffers.value_to word) (no_value word) s.buffer u.buffer h.buffer i) (same_coherent s.memory u.memory word h.memory i)

still_empty : (s u : Contents) → IsThinnerContents s u → s.buffer ≡ [] → u.buffer ≡ []
still_empty s u h empty = subst (λ (xs : List Entry). Thins is_no_write xs u.buffer) empty h.buffer

-- ---- entries that are delayed, and writes

abbrev DelaysToo : Entry → Contents → Contents → Type 0
DelaysToo entry u t = (v : Contents) × IsDelayed u v entry × IsThinnerContents t v

delayed_too : (s t u : Contents) (entry : Entry) → IsThinnerContents s u → IsDelayed s t entry → DelaysToo entry u t
delayed_too s t u entry h d =
    let fewer = thins_length is_no_write s.buffer u.buffer h.buffer in
    let room = d.room in (
      record u { buffer = u.buffer ++ entry ∷ [] },
      record { room = omega (arith, fewer, room); buffer = refl; memory = refl; shape = refl },
      record {
        shape = h.shape ∙ sym d.shape;
        buffer = subst (λ (xs : List Entry). Thins is_no_write xs (u.buffer ++ entry ∷ [])) (sym d.buffer)
            (thins_joined is_no_write s.buffer (entry ∷ []) u.buffer (entry ∷ []) h.buffer (inl ([], refl, refl)));
        memory = subst (λ m. IsThinnerMemory m u.memory) (sym d.memory) h.memory;
      },
    )

-- the other alone delays a flush or a fence
delayed_alone : (s t u : Contents) (entry : Entry) → is_no_write entry ≡ true → IsThinnerContents s u → IsDelayed s t entry → IsThinnerContents t u
delayed_alone s t u entry drops h d = record {
  shape = h.shape ∙ sym d.shape;
  buffer = subst (λ (xs : List Entry). Thins is_no_write xs u.buffer) (sym d.buffer) (
      subst (λ (ys : List Entry). Thins is_no_write (s.buffer ++ entry ∷ []) ys) (append-nil u.buffer)
      (thins_joined is_no_write s.buffer (entry ∷ []) u.buffer [] h.buffer (inr (drops, refl))));
  memory = subst (λ m. IsThinnerMemory m u.memory) (sym d.memory) h.memory;
}

abbrev WritesToo : ℕ → ℕ → Contents → Contents → Type 0
WritesToo word value u t = (v : Contents) × IsWritten u v word value × IsThinnerContents t v

written_too : (s t u : Contents) (word value : ℕ) → IsThinnerContents s u → IsWritten s t word value → WritesToo word value u t
written_too s t u word value h w =
    let fewer = thins_count is_marker (is_write_on (line_of word)) s.memory.pending u.memory.pending h.memory.pending in
    let room = w.room in
    let write : PendingEntry = Write word value in (
      record u { memory = record u.memory { pending = u.memory.pending ++ write ∷ [] } },
      record { room = omega (arith, fewer, room); pending = refl; persisted = refl; buffer = refl; shape = refl },
      record {
        shape = h.shape ∙ sym w.shape;
        buffer = subst (λ (xs : List Entry). Thins is_no_write xs u.buffer) (sym w.buffer) h.buffer;
        memory = record {
          pending = subst (λ (xs : List PendingEntry). Thins is_marker xs (u.memory.pending ++ write ∷ [])) (sym w.pending)
              (thins_joined is_marker s.memory.pending (write ∷ []) u.memory.pending (write ∷ []) h.memory.pending (inl ([], refl, refl)));
          persisted = h.memory.persisted ∙ sym w.persisted;
        };
      },
    )

-- ---- the same instruction

module _ (c d : Cpu) (s t u : Contents) (act : Act) (h : IsThinnerContents s u) where
  value : (word : ℕ) → coherent s.memory word ≡ coherent u.memory word
  value word = sym (same_coherent s.memory u.memory word h.memory)

  delays : (entry : Entry) → Delays c s act d t entry → (v : Contents) × Delays c u act d v entry × IsThinnerContents t v
  delays entry (shown, on, is) = let too = delayed_too s t u entry h is in (too.0, (shown, on, too.1), too.2)

  -- a locked operation that reads this value
  abbrev Exchanges : ℕ → ℕ → Reg → Contents → Type 0
  Exchanges old word r v = (u.buffer ≡ []) × (act ≡ Locked word old (Some (reg c.regs r))) × GoesOn c d (with_reg c.regs r old) × IsWritten u v word (reg c.regs r)

  abbrev Adds : ℕ → ℕ → Reg → Contents → Type 0
  Adds old word r v =
      let sum = word_sum old (reg c.regs r) in
      (u.buffer ≡ []) × (act ≡ Locked word old (Some sum)) × GoesOn c d (with_zero (with_reg c.regs r old) (sum == 0)) × IsWritten u v word sum

  abbrev IfSame : Contents → ℕ → ℕ → Reg → Contents → Type 0
  IfSame x old word r v =
      reg c.regs Rax ≡ old → (act ≡ Locked word old (Some (reg c.regs r))) × GoesOn c d (with_zero c.regs true) × IsWritten x v word (reg c.regs r)

  abbrev IfOther : Contents → ℕ → ℕ → Reg → Contents → Type 0
  IfOther x old word r v =
      reg c.regs Rax ≢ old → (act ≡ Locked word old None) × GoesOn c d (with_zero (with_reg c.regs Rax old) false) × (v ≡ x)

  abbrev Compares : ℕ → ℕ → Reg → Contents → Type 0
  Compares old word r v = (u.buffer ≡ []) × IfSame u old word r v × IfOther u old word r v

  compares : (old word : ℕ) (r : Reg) (equal : Bool) → (reg c.regs Rax == old) ≡ equal → s.buffer ≡ [] → IfSame s old word r t → IfOther s old word r t
      → (v : Contents) × Compares old word r v × IsThinnerContents t v
  compares old word r true is empty same other =
      let equal = eqb-true (reg c.regs Rax) old is in
      let (shown, on, w) = same equal in
      let too = written_too s t u word (reg c.regs r) h w in
      (too.0, (still_empty s u h empty, λ again. (shown, on, too.1), λ apart. absurd (apart equal)), too.2)
  compares old word r false is empty same other =
      let apart : reg c.regs Rax ≢ old = λ equal. true≢false (sym (eq-eqb (reg c.regs Rax) old equal) ∙ is) in
      let (shown, on, e) = other apart in
      (u, (still_empty s u h empty, λ equal. absurd (apart equal), λ again. (shown, on, refl)), same_thinner s t u e h)

  abbrev AccessesToo : ℕ → Access → Type 0
  AccessesToo word access = (v : Contents) × IsAccessTo word access c u act d v × IsThinnerContents t v

  accesses_too : (word : ℕ) (access : Access) → IsAccessTo word access c s act d t → AccessesToo word access
  accesses_too word (accesses.Load r) (shown, on, e) =
      let same : seen_value s word ≡ seen_value u word = sym (same_seen s u word h) in
      (u, subst (λ (n : ℕ). (act ≡ Read word n) × GoesOn c d (with_reg c.regs r n) × (u ≡ u)) same (shown, on, refl), same_thinner s t u e h)
  accesses_too word (accesses.Store (Register r)) did = delays (entries.Write word (reg c.regs r)) did
  accesses_too word (accesses.Store (Number n)) did = delays (entries.Write word n) did
  accesses_too word (accesses.Locked Exchange r) (empty, shown, on, w) =
      let too = written_too s t u word (reg c.regs r) h w in
      (too.0, subst (λ (n : ℕ). Exchanges n word r too.0) (value word) (still_empty s u h empty, shown, on, too.1), too.2)
  accesses_too word (accesses.Locked ExchangeAdd r) (empty, shown, on, w) =
      let too = written_too s t u word (word_sum (coherent s.memory word) (reg c.regs r)) h w in
      (too.0, subst (λ (n : ℕ). Adds n word r too.0) (value word) (still_empty s u h empty, shown, on, too.1), too.2)
  accesses_too word (accesses.Locked CompareExchange r) (empty, same, other) =
      let too = compares (coherent s.memory word) word r (reg c.regs Rax == coherent s.memory word) refl empty same other in
      (too.0, subst (λ (n : ℕ). Compares n word r too.0) (value word) too.1, too.2)
  accesses_too word (accesses.Flush Clflush) did = delays (entries.Flush (line_of word)) did
  accesses_too word (accesses.Flush Clflushopt) did = delays (entries.FlushOpt (line_of word)) did
  accesses_too word (accesses.Flush Clwb) did = delays (entries.FlushOpt (line_of word)) did

  abbrev pub RunsToo : Instr → Type 0
  RunsToo instr = (v : Contents) × IsRunOf instr c u act d v × IsThinnerContents t v

  abbrev MemoryToo : Access → ℕ → Option ℕ → Type 0
  MemoryToo access address o = (v : Contents) × MatchOption o (Traps c u act d v address) (λ word. IsAccessTo word access c u act d v) × IsThinnerContents t v

  memory_too : (access : Access) (address : ℕ) (o : Option ℕ) → MatchOption o (Traps c s act d t address) (λ word. IsAccessTo word access c s act d t)
      → MemoryToo access address o
  memory_too access address None (shown, on, e) = (u, (shown, on, refl), same_thinner s t u e h)
  memory_too access address (Some word) did = accesses_too word access did

  pub runs_too : (instr : Instr) → IsRunOf instr c s act d t → RunsToo instr
  runs_too (instrs.Set r (Number n)) (shown, on, e) = (u, (shown, on, refl), same_thinner s t u e h)
  runs_too (instrs.Set r (Register other)) (shown, on, e) = (u, (shown, on, refl), same_thinner s t u e h)
  runs_too (instrs.Compute Add r n) (shown, on, e) = (u, (shown, on, refl), same_thinner s t u e h)
  runs_too (instrs.Compute Compare r n) (shown, on, e) = (u, (shown, on, refl), same_thinner s t u e h)
  runs_too (instrs.Jump Always target) (shown, on, e) = (u, (shown, on, refl), same_thinner s t u e h)
  runs_too (instrs.Jump IfZero target) (shown, on, off, e) = (u, (shown, on, off, refl), same_thinner s t u e h)
  runs_too (instrs.Jump IfNotZero target) (shown, on, off, e) = (u, (shown, on, off, refl), same_thinner s t u e h)
  runs_too instrs.Nop (shown, on, e) = (u, (shown, on, refl), same_thinner s t u e h)
  runs_too (instrs.Memory access operand) did =
      let address = address_meant c.regs operand in
      subst (MemoryToo access address) (ap (λ (over : List ℕ). word_at over address) (sym h.shape)) (memory_too access address (word_at s.shape address) did)
  runs_too (instrs.Fence Mfence) (empty, shown, on, e) = (u, (still_empty s u h empty, shown, on, refl), same_thinner s t u e h)
  runs_too (instrs.Fence Sfence) did = delays entries.Sfence did

  -- ---- a nop in its place

  abbrev NopsToo : Type 0
  NopsToo = GoesOn c d c.regs × IsThinnerContents t u

  flushes : (kind : FlushKind) (word : ℕ) → IsAccessTo word (accesses.Flush kind) c s act d t → NopsToo
  flushes Clflush word (shown, on, is) = (on, delayed_alone s t u (entries.Flush (line_of word)) refl h is)
  flushes Clflushopt word (shown, on, is) = (on, delayed_alone s t u (entries.FlushOpt (line_of word)) refl h is)
  flushes Clwb word (shown, on, is) = (on, delayed_alone s t u (entries.FlushOpt (line_of word)) refl h is)

  lacks_too : (instr : Instr) → may_be_nop instr ≡ true → names_its_words s.shape instr ≡ true → IsRunOf instr c s act d t → NopsToo
  lacks_too (instrs.Set r source) may named did = absurd (true≢false (sym may))
  lacks_too (instrs.Compute operation r n) may named did = absurd (true≢false (sym may))
  lacks_too (instrs.Jump kind target) may named did = absurd (true≢false (sym may))
  lacks_too instrs.Nop may named did = absurd (true≢false (sym may))
  lacks_too (instrs.Memory (accesses.Load r) operand) may named did = absurd (true≢false (sym may))
  lacks_too (instrs.Memory (accesses.Store source) operand) may named did = absurd (true≢false (sym may))
  lacks_too (instrs.Memory (accesses.Locked operation r) operand) may named did = absurd (true≢false (sym may))
  lacks_too (instrs.Memory (accesses.Flush kind) (operands.Register r)) may named did = absurd (true≢false (sym may))
  lacks_too (instrs.Memory (accesses.Flush kind) (operands.Word word)) may named did =
      flushes kind word (subst (λ (o : Option ℕ). MatchOption o (Traps c s act d t (address_of word)) (λ at. IsAccessTo at (accesses.Flush kind) c s act d t)) (word_again s.shape word named) did)
  lacks_too (instrs.Fence Mfence) may named (empty, shown, on, e) = (on, same_thinner s t u e h)
  lacks_too (instrs.Fence Sfence) may named (shown, on, is) = (on, delayed_alone s t u entries.Sfence refl h is)

  pub nops_too : (instr : Instr) → may_be_nop_on s.shape instr ≡ true → IsRunOf instr c s act d t → NopsToo
  nops_too instr may did = let parts = and_parts (may_be_nop instr) (names_its_words s.shape instr) may in lacks_too instr parts.0 parts.1 did
