-- Who is behind an access means a word by its operand, whatever runs.
use Rattle.std.proofs.Common.{◌≡◌, ℕ, ◌+◌, ◌<◌, ◌≤◌, ◌⊎◌, Bool, true, false, true≢false, Option, Some, None, List, refl, sym, ◌∙◌, ap, subst, arith, inl, inr, get_or-set_other}
use Rattle.std.specs.Prelude.{◌==◌, MatchOption, not, slice_get}
use Rattle.std.proofs.lemmas.Bool.{cases_lt, eqb-true, eq-eqb}
use Rattle.lines_layout.specs.Lines.{address_of, word_at}
use Rattle.lines_layout.proofs.Addresses.{word_again, word_found}
use Rattle.isa.specs.declared.instr.Access.{Access}
use Rattle.isa.specs.declared.instr.Access.TheVariants as accesses
use Rattle.isa.specs.declared.instr.Computation.TheVariants.{Add, Compare}
use Rattle.isa.specs.declared.instr.FenceKind.TheVariants.{Mfence, Sfence}
use Rattle.isa.specs.declared.instr.FlushKind.{FlushKind}
use Rattle.isa.specs.declared.instr.FlushKind.TheVariants.{Clflush, Clflushopt, Clwb}
use Rattle.isa.specs.declared.instr.Instr.{Instr}
use Rattle.isa.specs.declared.instr.Instr.TheVariants as instrs
use Rattle.isa.specs.declared.instr.JumpKind.{JumpKind}
use Rattle.isa.specs.declared.instr.JumpKind.TheVariants.{Always, IfZero, IfNotZero}
use Rattle.isa.specs.declared.instr.LockedOperation.TheVariants.{Exchange, ExchangeAdd, CompareExchange}
use Rattle.isa.specs.declared.instr.MemoryOperand.{MemoryOperand}
use Rattle.isa.specs.declared.instr.MemoryOperand.TheVariants as operands
use Rattle.isa.specs.declared.instr.Source.TheVariants.{Register, Number}
use Rattle.isa.specs.declared.register.Reg.{Reg}
use Rattle.isa.specs.declared.register.Reg.TheVariants.{Rax}
use Rattle.isa.specs.declared.register.Regs.{Regs}
use Rattle.isa.specs.Operands.{address_meant}
use Rattle.isa.specs.Registers.{reg, slot, with_reg}
use Rattle.persist_buffer.specs.Memories.{coherent}
use Rattle.processor.specs.declared.act.Act.{Act}
use Rattle.processor.specs.Contents.{Contents}
use Rattle.processor.specs.Cpus.{Cpu}
use Rattle.processor.specs.Instructions.{GoesOn, IsAccessTo, IsRunOf, Jumps, Traps}
use Rattle.fewer_fences.specs.Thinner.{may_be_nop_on}
use Rattle.candidates.specs.Candidates.{is_same_reg, operand_kept, reg_kept}
use Rattle.added_fences.specs.Added.{IsBehindAccess, MeansWord, is_flush_or_fence}

-- ---- registers that an access keeps

is_off : (b : Bool) → not b ≡ true → b ≡ false
is_off true e = sym e
is_off false e = refl

reg_stays : (regs : Regs) (written r : Reg) (n : ℕ) → not (is_same_reg written r) ≡ true → reg (with_reg regs written n) r ≡ reg regs r
reg_stays regs written r n apart =
    get_or-set_other regs.values (slot written) (slot r) n 0
    (λ e. true≢false (sym (eq-eqb (slot written) (slot r) (sym e)) ∙ is_off (is_same_reg written r) apart))

module _ (c d : Cpu) (s t : Contents) (act : Act) where
  same_reg : (r : Reg) (regs : Regs) → GoesOn c d regs → reg d.regs r ≡ reg regs r
  same_reg r regs goes = ap (λ (x : Cpu). reg x.regs r) goes

  compared : (word : ℕ) (own r : Reg) (equal : Bool) → (reg c.regs Rax == coherent s.memory word) ≡ equal → not (is_same_reg Rax r) ≡ true
      → IsAccessTo word (accesses.Locked CompareExchange own) c s act d t → reg d.regs r ≡ reg c.regs r
  compared word own r true e apart (empty, same, other) = let did = same (eqb-true (reg c.regs Rax) (coherent s.memory word) e) in same_reg r _ did.1
  compared word own r false e apart (empty, same, other) =
      let did = other (λ equal. true≢false (sym (eq-eqb (reg c.regs Rax) (coherent s.memory word) equal) ∙ e)) in
      same_reg r _ did.1 ∙ reg_stays c.regs Rax r (coherent s.memory word) apart

  reg_is_kept : (word : ℕ) (r : Reg) (access : Access) → reg_kept access r ≡ true → IsAccessTo word access c s act d t → reg d.regs r ≡ reg c.regs r
  reg_is_kept word r (accesses.Load written) kept (shown, goes, e) = same_reg r _ goes ∙ reg_stays c.regs written r _ kept
  reg_is_kept word r (accesses.Store (Register from)) kept (shown, goes, e) = same_reg r _ goes
  reg_is_kept word r (accesses.Store (Number n)) kept (shown, goes, e) = same_reg r _ goes
  reg_is_kept word r (accesses.Locked Exchange own) kept (empty, shown, goes, e) = same_reg r _ goes ∙ reg_stays c.regs own r _ kept
  reg_is_kept word r (accesses.Locked ExchangeAdd own) kept (empty, shown, goes, e) = same_reg r _ goes ∙ reg_stays c.regs own r _ kept
  reg_is_kept word r (accesses.Locked CompareExchange own) kept did = compared word own r (reg c.regs Rax == coherent s.memory word) refl kept did
  reg_is_kept word r (accesses.Flush Clflush) kept (shown, goes, e) = same_reg r _ goes
  reg_is_kept word r (accesses.Flush Clflushopt) kept (shown, goes, e) = same_reg r _ goes
  reg_is_kept word r (accesses.Flush Clwb) kept (shown, goes, e) = same_reg r _ goes

  address_kept : (word : ℕ) (operand : MemoryOperand) (access : Access) → operand_kept access operand ≡ true → IsAccessTo word access c s act d t
      → address_meant d.regs operand ≡ address_meant c.regs operand
  address_kept word (operands.Word named) access kept did = refl
  address_kept word (operands.Register r) access kept did = reg_is_kept word r access kept did

  -- ---- where an access leads

  next_of : (regs : Regs) → GoesOn c d regs → d.place ≡ c.place + 1
  next_of regs goes = ap (λ (x : Cpu). x.place) goes

  compared_next : (word : ℕ) (own : Reg) (equal : Bool) → (reg c.regs Rax == coherent s.memory word) ≡ equal → IsAccessTo word (accesses.Locked CompareExchange own) c s act d t
      → d.place ≡ c.place + 1
  compared_next word own true e (empty, same, other) = let did = same (eqb-true (reg c.regs Rax) (coherent s.memory word) e) in next_of _ did.1
  compared_next word own false e (empty, same, other) =
      let did = other (λ equal. true≢false (sym (eq-eqb (reg c.regs Rax) (coherent s.memory word) equal) ∙ e)) in next_of _ did.1

  access_next : (word : ℕ) (access : Access) → IsAccessTo word access c s act d t → d.place ≡ c.place + 1
  access_next word (accesses.Load written) (shown, goes, e) = next_of _ goes
  access_next word (accesses.Store (Register from)) (shown, goes, e) = next_of _ goes
  access_next word (accesses.Store (Number n)) (shown, goes, e) = next_of _ goes
  access_next word (accesses.Locked Exchange own) (empty, shown, goes, e) = next_of _ goes
  access_next word (accesses.Locked ExchangeAdd own) (empty, shown, goes, e) = next_of _ goes
  access_next word (accesses.Locked CompareExchange own) did = compared_next word own (reg c.regs Rax == coherent s.memory word) refl did
  access_next word (accesses.Flush Clflush) (shown, goes, e) = next_of _ goes
  access_next word (accesses.Flush Clflushopt) (shown, goes, e) = next_of _ goes
  access_next word (accesses.Flush Clwb) (shown, goes, e) = next_of _ goes

  regs_of : (regs : Regs) → GoesOn c d regs → d.regs ≡ regs
  regs_of regs goes = ap (λ (x : Cpu). x.regs) goes

  -- a flush leaves the registers
  flush_keeps : (word : ℕ) (access : Access) (operand : MemoryOperand) → is_flush_or_fence (instrs.Memory access operand) ≡ true → IsAccessTo word access c s act d t → d.regs ≡ c.regs
  flush_keeps word (accesses.Load written) operand orders did = absurd (true≢false (sym orders))
  flush_keeps word (accesses.Store source) operand orders did = absurd (true≢false (sym orders))
  flush_keeps word (accesses.Locked operation own) operand orders did = absurd (true≢false (sym orders))
  flush_keeps word (accesses.Flush Clflush) operand orders (shown, goes, e) = regs_of _ goes
  flush_keeps word (accesses.Flush Clflushopt) operand orders (shown, goes, e) = regs_of _ goes
  flush_keeps word (accesses.Flush Clwb) operand orders (shown, goes, e) = regs_of _ goes

-- ---- a flush by a register, and one of the same word by its address

pub flush_as_named : (c d : Cpu) (s t : Contents) (act : Act) (kind : FlushKind) (operand : MemoryOperand) (word : ℕ) → word_at s.shape (address_meant c.regs operand) ≡ Some word
    → IsRunOf (instrs.Memory (accesses.Flush kind) operand) c s act d t → IsRunOf (instrs.Memory (accesses.Flush kind) (operands.Word word)) c s act d t
flush_as_named c d s t act kind operand word is did =
    let found = word_found s.shape (address_meant c.regs operand) word is in
    subst (λ (o : Option ℕ). MatchOption o (Traps c s act d t (address_of word)) (λ at. IsAccessTo at (accesses.Flush kind) c s act d t)) (sym (word_again s.shape word found.0)) (
    subst (λ (o : Option ℕ). MatchOption o (Traps c s act d t (address_meant c.regs operand)) (λ at. IsAccessTo at (accesses.Flush kind) c s act d t)) is did)

pub named_orders : (shape : List ℕ) (address : ℕ) (kind : FlushKind) (word : ℕ) → word_at shape address ≡ Some word
    → may_be_nop_on shape (instrs.Memory (accesses.Flush kind) (operands.Word word)) ≡ true
named_orders shape address kind word is = (word_found shape address word is).0

-- ---- an instruction runs

this_one : (x y : Instr) → Some x ≡ Some y → y ≡ x
this_one x y e = let same : x ≡ y = cc in sym same

module _ (code : List Instr) (operand : MemoryOperand) (c d : Cpu) (s t : Contents) (act : Act) (was : IsBehindAccess code operand c.place → MeansWord s.shape c.regs operand) where
  abbrev Means : Regs → Type 0
  Means regs = MeansWord s.shape regs operand

  same_means : d.regs ≡ c.regs → Means c.regs → Means d.regs
  same_means e means = subst (λ (regs : Regs). Means regs) (sym e) means

  -- one place before
  one_before : (b : IsBehindAccess code operand (c.place + 1)) → b.site < c.place → IsBehindAccess code operand c.place
  one_before b below = record {
    site = b.site;
    access = b.access;
    there = b.there;
    kept = b.kept;
    before = below;
    between = λ i from to. b.between i from (omega (arith, to));
    passed = λ i target kind at. elim (b.passed i target kind at) [
      | inl low ↦ inl low
      | inr past ↦ inr (omega (arith, past))
    ];
  }

  -- it goes on
  on_there : (instr : Instr) → slice_get code c.place ≡ Some instr
      → ((access : Access) → instr ≡ instrs.Memory access operand → operand_kept access operand ≡ true → Means d.regs) → (is_flush_or_fence instr ≡ true → d.regs ≡ c.regs)
      → (b : IsBehindAccess code operand (c.place + 1)) → (b.site < c.place) ⊎ (c.place ≤ b.site) → Means d.regs
  on_there instr here accessed keeps b (inl below) =
      let (other, at, orders) = b.between c.place below (omega arith) in
      let same : instr ≡ other = this_one other instr (sym at ∙ here) in
      same_means (keeps (ap is_flush_or_fence same ∙ orders)) (was (one_before b below))
  on_there instr here accessed keeps b (inr from) =
      let under = b.before in
      let is : b.site ≡ c.place = omega (arith, from, under) in
      accessed b.access (this_one (instrs.Memory b.access operand) instr (sym b.there ∙ (ap (slice_get code) is ∙ here))) b.kept

  on : (instr : Instr) → slice_get code c.place ≡ Some instr → d.place ≡ c.place + 1
      → ((access : Access) → instr ≡ instrs.Memory access operand → operand_kept access operand ≡ true → Means d.regs) → (is_flush_or_fence instr ≡ true → d.regs ≡ c.regs)
      → IsBehindAccess code operand d.place → Means d.regs
  on instr here next accessed keeps b =
      let b' = subst (λ (place : ℕ). IsBehindAccess code operand place) next b in
      on_there instr here accessed keeps b' (cases_lt b'.site c.place)

  -- it jumps
  jumped : (kind : JumpKind) (target : ℕ) → slice_get code c.place ≡ Some (instrs.Jump kind target) → Jumps c d target → IsBehindAccess code operand d.place → Means d.regs
  jumped kind target here jumps b =
      let b' = subst (λ (place : ℕ). IsBehindAccess code operand place) (ap (λ (x : Cpu). x.place) jumps) b in
      let under = b'.before in
      elim (b'.passed c.place target kind here) [
        | inl low ↦ absurd (omega (arith, low, under))
        | inr past ↦ absurd (omega (arith, past))
      ]

  -- what neither accesses memory nor orders it goes on
  plain : (instr : Instr) (regs : Regs) → is_flush_or_fence instr ≡ false → ((access : Access) → instr ≡ instrs.Memory access operand → ⊥) → slice_get code c.place ≡ Some instr → GoesOn c d regs
      → IsBehindAccess code operand d.place → Means d.regs
  plain instr regs no_order no_access here goes b =
      on instr here (next_of c d s t act regs goes) (λ access is kept. absurd (no_access access is)) (λ orders. absurd (true≢false (sym orders ∙ no_order))) b

  fence : (instr : Instr) → ((access : Access) → instr ≡ instrs.Memory access operand → ⊥) → slice_get code c.place ≡ Some instr → GoesOn c d c.regs
      → IsBehindAccess code operand d.place → Means d.regs
  fence instr no_access here goes b =
      on instr here (next_of c d s t act c.regs goes) (λ access is kept. absurd (no_access access is)) (λ orders. regs_of c d s t act c.regs goes) b

  if_zero : (target : ℕ) (zero : Bool) → c.regs.zero ≡ zero → slice_get code c.place ≡ Some (instrs.Jump IfZero target) → IsRunOf (instrs.Jump IfZero target) c s act d t
      → IsBehindAccess code operand d.place → Means d.regs
  if_zero target true z here (shown, taken, not_taken, e) b = jumped IfZero target here (taken z) b
  if_zero target false z here (shown, taken, not_taken, e) b = plain _ _ refl (λ access is. absurd (cc)) here (not_taken z) b

  if_not_zero : (target : ℕ) (zero : Bool) → c.regs.zero ≡ zero → slice_get code c.place ≡ Some (instrs.Jump IfNotZero target) → IsRunOf (instrs.Jump IfNotZero target) c s act d t
      → IsBehindAccess code operand d.place → Means d.regs
  if_not_zero target false z here (shown, taken, not_taken, e) b = jumped IfNotZero target here (taken z) b
  if_not_zero target true z here (shown, taken, not_taken, e) b = plain _ _ refl (λ access is. absurd (cc)) here (not_taken z) b

  -- an access by the operand, which keeps it
  accessed_by : (word : ℕ) (access other : Access) (by : MemoryOperand) → word_at s.shape (address_meant c.regs by) ≡ Some word → IsAccessTo word access c s act d t
      → instrs.Memory access by ≡ instrs.Memory other operand → operand_kept other operand ≡ true → Means d.regs
  accessed_by word access other by found did is kept =
      let same : access ≡ other = cc in
      let too : by ≡ operand = cc in (
        word,
        ap (word_at s.shape) (address_kept c d s t act word operand access (ap (λ (a : Access). operand_kept a operand) same ∙ kept) did)
            ∙ (ap (λ (o : MemoryOperand). word_at s.shape (address_meant c.regs o)) (sym too) ∙ found),
      )

  memory : (access : Access) (by : MemoryOperand) (o : Option ℕ) → slice_get code c.place ≡ Some (instrs.Memory access by) → word_at s.shape (address_meant c.regs by) ≡ o
      → MatchOption o (Traps c s act d t (address_meant c.regs by)) (λ word. IsAccessTo word access c s act d t) → IsBehindAccess code operand d.place → Means d.regs
  memory access by None here found (shown, trapped, e) b =
      same_means (ap (λ (x : Cpu). x.regs) trapped) (was (subst (λ (place : ℕ). IsBehindAccess code operand place) (ap (λ (x : Cpu). x.place) trapped) b))
  memory access by (Some word) here found did b =
      on (instrs.Memory access by) here (access_next c d s t act word access did) (λ other is kept. accessed_by word access other by found did is kept)
      (λ orders. flush_keeps c d s t act word access by orders did) b

  pub means_again : (instr : Instr) → slice_get code c.place ≡ Some instr → IsRunOf instr c s act d t → IsBehindAccess code operand d.place → MeansWord s.shape d.regs operand
  means_again (instrs.Set r (Number n)) here (shown, goes, e) b = plain _ _ refl (λ access is. absurd (cc)) here goes b
  means_again (instrs.Set r (Register from)) here (shown, goes, e) b = plain _ _ refl (λ access is. absurd (cc)) here goes b
  means_again (instrs.Compute Add r n) here (shown, goes, e) b = plain _ _ refl (λ access is. absurd (cc)) here goes b
  means_again (instrs.Compute Compare r n) here (shown, goes, e) b = plain _ _ refl (λ access is. absurd (cc)) here goes b
  means_again (instrs.Jump Always target) here (shown, jumps, e) b = jumped Always target here jumps b
  means_again (instrs.Jump IfZero target) here did b = if_zero target c.regs.zero refl here did b
  means_again (instrs.Jump IfNotZero target) here did b = if_not_zero target c.regs.zero refl here did b
  means_again instrs.Nop here (shown, goes, e) b = plain _ _ refl (λ access is. absurd (cc)) here goes b
  means_again (instrs.Memory access by) here did b = memory access by (word_at s.shape (address_meant c.regs by)) here refl did b
  means_again (instrs.Fence Mfence) here (empty, shown, goes, e) b = fence _ (λ access is. absurd (cc)) here goes b
  means_again (instrs.Fence Sfence) here (shown, goes, e) b = fence _ (λ access is. absurd (cc)) here goes b
