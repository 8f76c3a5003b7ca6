-- An instruction does at the place that its own is led back to what it does at its own, where jumps are led back.
use Rattle.std.proofs.Common.{◌≡◌, ℕ, ◌+◌, Bool, true, false, true≢false, Option, Some, None, List, refl, sym, ◌∙◌, ap, subst, inl}
use Rattle.std.specs.Prelude.{◌==◌, MatchOption}
use Rattle.std.proofs.lemmas.Bool.{eqb-true, eq-eqb}
use Rattle.lines_layout.specs.Lines.{word_at}
use Rattle.isa.specs.declared.instr.Access.{Access}
use Rattle.isa.specs.declared.instr.Access.TheVariants as accesses
use Rattle.isa.specs.declared.instr.Computation.TheVariants.{Add, Compare}
use Rattle.isa.specs.declared.instr.FenceKind.TheVariants.{Mfence, Sfence}
use Rattle.isa.specs.declared.instr.FlushKind.TheVariants.{Clflush, Clflushopt, Clwb}
use Rattle.isa.specs.declared.instr.Instr.{Instr}
use Rattle.isa.specs.declared.instr.Instr.TheVariants as instrs
use Rattle.isa.specs.declared.instr.JumpKind.TheVariants.{Always, IfZero, IfNotZero}
use Rattle.isa.specs.declared.instr.LockedOperation.TheVariants.{Exchange, ExchangeAdd, CompareExchange}
use Rattle.isa.specs.declared.instr.Source.TheVariants.{Register, Number}
use Rattle.isa.specs.declared.register.Reg.TheVariants.{Rax}
use Rattle.isa.specs.declared.register.Regs.{Regs}
use Rattle.isa.specs.Operands.{address_meant}
use Rattle.isa.specs.Registers.{reg}
use Rattle.persist_buffer.specs.Memories.{coherent}
use Rattle.processor.specs.declared.act.Act.{Act}
use Rattle.processor.specs.Contents.{Contents}
use Rattle.processor.specs.Cpus.{Cpu}
use Rattle.processor.specs.Instructions.{GoesOn, IsAccessTo, IsRunOf, Jumps, Traps}
use Rattle.added_fences.specs.Added.{IsLedBack, StandsFor}

-- the same at another place
abbrev pub at : ℕ → Cpu → Cpu
at place c = record c { place = place }

module _ (back : ℕ → ℕ) (more less : List Instr) (here : ℕ) (c d : Cpu) (s t : Contents) (act : Act) (is : here ≡ back c.place) (next : back (c.place + 1) ≡ here + 1) where
  abbrev Stands : ℕ → ℕ → Type 0
  Stands = StandsFor back more less

  -- the instruction runs there, and leads to a place for which that stands to which the other leads
  abbrev pub RunsThere : Instr → Type 0
  RunsThere other = (there : ℕ) × IsRunOf other (at here c) s act (at there d) t × Stands d.place there

  -- ---- it goes on, or jumps

  on : (regs : Regs) → GoesOn c d regs → GoesOn (at here c) (at (here + 1) d) regs
  on regs goes = ap (λ (x : Cpu). at (here + 1) x) goes

  behind : (regs : Regs) → GoesOn c d regs → Stands d.place (here + 1)
  behind regs goes = inl (sym (ap (λ (x : Cpu). back x.place) goes ∙ next))

  jumps : (target new : ℕ) → Jumps c d target → Jumps (at here c) (at new d) new
  jumps target new goes = ap (λ (x : Cpu). at new x) goes

  landed : (target new : ℕ) → Stands target new → Jumps c d target → Stands d.place new
  landed target new to goes = subst (λ (place : ℕ). Stands place new) (ap (λ (x : Cpu). x.place) (sym goes)) to

  -- ---- accesses

  abbrev AccessesThere : ℕ → Access → Type 0
  AccessesThere word access = IsAccessTo word access (at here c) s act (at (here + 1) d) t × Stands d.place (here + 1)

  compared : (word : ℕ) (r : _) (equal : Bool) → (reg c.regs Rax == coherent s.memory word) ≡ equal → IsAccessTo word (accesses.Locked CompareExchange r) c s act d t → Stands d.place (here + 1)
  compared word r true e (empty, same, other) = let did = same (eqb-true (reg c.regs Rax) (coherent s.memory word) e) in behind _ did.1
  compared word r false e (empty, same, other) =
      let did = other (λ equal. true≢false (sym (eq-eqb (reg c.regs Rax) (coherent s.memory word) equal) ∙ e)) in behind _ did.1

  accesses_there : (word : ℕ) (access : Access) → IsAccessTo word access c s act d t → AccessesThere word access
  accesses_there word (accesses.Load r) (shown, goes, e) = ((shown, on _ goes, e), behind _ goes)
  accesses_there word (accesses.Store (Register r)) (shown, goes, e) = ((shown, on _ goes, e), behind _ goes)
  accesses_there word (accesses.Store (Number n)) (shown, goes, e) = ((shown, on _ goes, e), behind _ goes)
  accesses_there word (accesses.Locked Exchange r) (empty, shown, goes, e) = ((empty, shown, on _ goes, e), behind _ goes)
  accesses_there word (accesses.Locked ExchangeAdd r) (empty, shown, goes, e) = ((empty, shown, on _ goes, e), behind _ goes)
  accesses_there word (accesses.Locked CompareExchange r) (empty, same, other) = (
    (
      empty,
      λ e. let did = same e in (did.0, on _ did.1, did.2),
      λ e. let did = other e in (did.0, on _ did.1, did.2),
    ),
    compared word r (reg c.regs Rax == coherent s.memory word) refl (empty, same, other),
  )
  accesses_there word (accesses.Flush Clflush) (shown, goes, e) = ((shown, on _ goes, e), behind _ goes)
  accesses_there word (accesses.Flush Clflushopt) (shown, goes, e) = ((shown, on _ goes, e), behind _ goes)
  accesses_there word (accesses.Flush Clwb) (shown, goes, e) = ((shown, on _ goes, e), behind _ goes)

  abbrev MemoryThere : Access → ℕ → Option ℕ → Type 0
  MemoryThere access address o =
      (there : ℕ)
      × MatchOption o (Traps (at here c) s act (at there d) t address) (λ word. IsAccessTo word access (at here c) s act (at there d) t)
      × Stands d.place there

  memory_there : (access : Access) (address : ℕ) (o : Option ℕ) → MatchOption o (Traps c s act d t address) (λ word. IsAccessTo word access c s act d t) → MemoryThere access address o
  memory_there access address None (shown, trapped, e) =
      (here, (shown, ap (λ (x : Cpu). at here x) trapped, e), inl (is ∙ ap (λ (x : Cpu). back x.place) (sym trapped)))
  memory_there access address (Some word) did = let there = accesses_there word access did in (here + 1, there.0, there.1)

  -- ---- jumps that are taken or not

  if_zero : (target new : ℕ) (zero : Bool) → c.regs.zero ≡ zero → Stands target new → IsRunOf (instrs.Jump IfZero target) c s act d t → RunsThere (instrs.Jump IfZero new)
  if_zero target new true z to (shown, taken, not_taken, e) =
      let goes = taken z in
      (new, (shown, λ again. jumps target new goes, λ apart. absurd (true≢false (sym z ∙ apart)), e), landed target new to goes)
  if_zero target new false z to (shown, taken, not_taken, e) =
      let goes = not_taken z in
      (here + 1, (shown, λ apart. absurd (true≢false (sym apart ∙ z)), λ again. on _ goes, e), behind _ goes)

  if_not_zero : (target new : ℕ) (zero : Bool) → c.regs.zero ≡ zero → Stands target new → IsRunOf (instrs.Jump IfNotZero target) c s act d t → RunsThere (instrs.Jump IfNotZero new)
  if_not_zero target new false z to (shown, taken, not_taken, e) =
      let goes = taken z in
      (new, (shown, λ again. jumps target new goes, λ apart. absurd (true≢false (sym apart ∙ z)), e), landed target new to goes)
  if_not_zero target new true z to (shown, taken, not_taken, e) =
      let goes = not_taken z in
      (here + 1, (shown, λ apart. absurd (true≢false (sym z ∙ apart)), λ again. on _ goes, e), behind _ goes)

  -- ---- any instruction

  same_instr : (instr : Instr) → RunsThere instr → (other : Instr) → other ≡ instr → RunsThere other
  same_instr instr runs other e = subst (λ (x : Instr). RunsThere x) (sym e) runs

  pub runs_there : (instr other : Instr) → IsLedBack Stands instr other → IsRunOf instr c s act d t → RunsThere other
  runs_there (instrs.Set r (Number n)) other alike (shown, goes, e) = same_instr _ (here + 1, (shown, on _ goes, e), behind _ goes) other alike
  runs_there (instrs.Set r (Register from)) other alike (shown, goes, e) = same_instr _ (here + 1, (shown, on _ goes, e), behind _ goes) other alike
  runs_there (instrs.Compute Add r n) other alike (shown, goes, e) = same_instr _ (here + 1, (shown, on _ goes, e), behind _ goes) other alike
  runs_there (instrs.Compute Compare r n) other alike (shown, goes, e) = same_instr _ (here + 1, (shown, on _ goes, e), behind _ goes) other alike
  runs_there (instrs.Jump Always target) other (new, alike, to) (shown, goes, e) =
      same_instr (instrs.Jump Always new) (new, (shown, jumps target new goes, e), landed target new to goes) other alike
  runs_there (instrs.Jump IfZero target) other (new, alike, to) did = same_instr (instrs.Jump IfZero new) (if_zero target new c.regs.zero refl to did) other alike
  runs_there (instrs.Jump IfNotZero target) other (new, alike, to) did = same_instr (instrs.Jump IfNotZero new) (if_not_zero target new c.regs.zero refl to did) other alike
  runs_there instrs.Nop other alike (shown, goes, e) = same_instr _ (here + 1, (shown, on _ goes, e), behind _ goes) other alike
  runs_there (instrs.Memory access operand) other alike did =
      let address = address_meant c.regs operand in
      same_instr (instrs.Memory access operand) (memory_there access address (word_at s.shape address) did) other alike
  runs_there (instrs.Fence Mfence) other alike (empty, shown, goes, e) = same_instr _ (here + 1, (empty, shown, on _ goes, e), behind _ goes) other alike
  runs_there (instrs.Fence Sfence) other alike (shown, goes, e) = same_instr _ (here + 1, (shown, on _ goes, e), behind _ goes) other alike
