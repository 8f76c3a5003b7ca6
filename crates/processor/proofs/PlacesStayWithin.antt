-- An instruction leaves a processor at a place of its program, or at its end.
use Rattle.std.proofs.Common.{◌≡◌, ℕ, zero, suc, ◌<◌, ◌≤◌, arith, Bool, true, Option, Some, None, Ok, Err, List, [], ◌∷◌, length, refl, sym, ◌∙◌, ap, subst, inl, inr}
use Rattle.std.specs.Prelude.{nat_le, slice_get, is_some, MatchOption, if◌then◌else◌}
use Rattle.lines_layout.specs.Lines.{word_at}
use Rattle.std.specs.List.{list_all}
use Rattle.std.proofs.lemmas.Bool.{cases_Bool, cases_eq, and_parts}
use Rattle.std.proofs.lemmas.Bool.Decides.{nat_tests}
use Rattle.std.proofs.lemmas.Option.{slice_get_within}
use Rattle.isa.specs.declared.instr.Instr.{Instr}
use Rattle.isa.specs.declared.instr.Instr.TheVariants as instrs
use Rattle.isa.specs.declared.instr.Computation.TheVariants.{Add, Compare}
use Rattle.isa.specs.declared.instr.FenceKind.TheVariants.{Mfence, Sfence}
use Rattle.isa.specs.declared.instr.FlushKind.TheVariants.{Clflush, Clflushopt, Clwb}
use Rattle.isa.specs.declared.instr.JumpKind.TheVariants.{Always, IfZero, IfNotZero}
use Rattle.isa.specs.declared.instr.LockedOperation.TheVariants.{Exchange, ExchangeAdd, CompareExchange}
use Rattle.isa.specs.declared.instr.Source.TheVariants.{Register, Number}
use Rattle.isa.specs.declared.register.Reg.TheVariants.{Rax}
use Rattle.isa.specs.declared.register.Regs.{Regs}
use Rattle.isa.specs.declared.instr.Access.{Access}
use Rattle.isa.specs.declared.instr.Access.TheVariants as accesses
use Rattle.isa.specs.Operands.{address_meant}
use Rattle.isa.specs.Programs.{max_instructions, leads_within, is_program}
use Rattle.isa.specs.Registers.{reg}
use Rattle.persist_buffer.specs.Memories.{coherent}
use Rattle.processor.specs.declared.act.Act.{Act}
use Rattle.processor.specs.declared.refusal.Refusal.TheVariants.{Halted}
use Rattle.processor.specs.Contents.{Contents}
use Rattle.processor.specs.Cpus.{Cpu}
use Rattle.processor.specs.Executions.{next_instruction, exec_of}
use Rattle.processor.specs.Instructions.{GoesOn, Jumps, IsAccessTo, Traps, IsRunOf}
use Rattle.processor.proofs.InstructionsRunAsTold.{Outcome, exec_with, run_only}

pub all_at : {A : Type 0} (p : A → Bool) (xs : List A) (i : ℕ) (x : A) → list_all p xs ≡ true → slice_get xs i ≡ Some x → p x ≡ true
all_at p [] i x all e = absurd (cc)
all_at {A} p (y ∷ xs) zero x all e =
    let same : y ≡ x = cc in
    subst (λ (z : A). p z ≡ true) same ((and_parts (p y) (list_all p xs) all).0)
all_at p (y ∷ xs) (suc i) x all e = all_at p xs i x ((and_parts (p y) (list_all p xs) all).1) e

module _ (c d : Cpu) (s t : Contents) (act : Act) (len : ℕ) (there : c.place < len) where
  goes_on : (regs : Regs) → GoesOn c d regs → d.place ≤ len
  goes_on regs e = omega (arith, ap (λ (x : Cpu). x.place) e, there)

  jumps : (target : ℕ) → nat_le target len ≡ true → Jumps c d target → d.place ≤ len
  jumps target within e =
      let at : d.place ≡ target = ap (λ (x : Cpu). x.place) e in
      let below : target ≤ len = grind (arith, nat_tests) in
      omega (arith, at, below)

  access_after : (word : ℕ) (access : Access) → IsAccessTo word access c s act d t → d.place ≤ len
  access_after word (accesses.Load r) x = goes_on _ x.1
  access_after word (accesses.Store (Register r)) x = goes_on _ x.1
  access_after word (accesses.Store (Number n)) x = goes_on _ x.1
  access_after word (accesses.Locked Exchange r) x = goes_on _ x.2
  access_after word (accesses.Locked ExchangeAdd r) x = goes_on _ x.2
  access_after word (accesses.Locked CompareExchange r) x =
      elim (cases_eq (reg c.regs Rax) (coherent s.memory word)) [ inl same ↦ goes_on _ ((x.1 same).1) | inr other ↦ goes_on _ ((x.2 other).1) ]
  access_after word (accesses.Flush Clflush) x = goes_on _ x.1
  access_after word (accesses.Flush Clflushopt) x = goes_on _ x.1
  access_after word (accesses.Flush Clwb) x = goes_on _ x.1

  memory_after : (access : Access) (address : ℕ) (o : Option ℕ) → MatchOption o (Traps c s act d t address) (λ word. IsAccessTo word access c s act d t) → d.place ≤ len
  memory_after access address None x = omega (arith, ap (λ (y : Cpu). y.place) x.1, there)
  memory_after access address (Some word) x = access_after word access x

  place_after : (instr : Instr) → leads_within len instr ≡ true → IsRunOf instr c s act d t → d.place ≤ len
  place_after (instrs.Set r (Number value)) h x = goes_on _ x.1
  place_after (instrs.Set r (Register other)) h x = goes_on _ x.1
  place_after (instrs.Compute Add r value) h x = goes_on _ x.1
  place_after (instrs.Compute Compare r value) h x = goes_on _ x.1
  place_after (instrs.Jump Always target) h x = jumps target h x.1
  place_after (instrs.Jump IfZero target) h x =
      elim (cases_Bool c.regs.zero) [ inl set ↦ jumps target h (x.1 set) | inr clear ↦ goes_on _ (x.2 clear) ]
  place_after (instrs.Jump IfNotZero target) h x =
      elim (cases_Bool c.regs.zero) [ inl set ↦ goes_on _ (x.2 set) | inr clear ↦ jumps target h (x.1 clear) ]
  place_after instrs.Nop h x = goes_on _ x.1
  place_after (instrs.Memory access operand) h x = memory_after access (address_meant c.regs operand) (word_at s.shape (address_meant c.regs operand)) x
  place_after (instrs.Fence Mfence) h x = goes_on _ x.2
  place_after (instrs.Fence Sfence) h x = goes_on _ x.1

-- the next instruction stands at the processor's place
stands_there : (trap : Option ℕ) (found : Option Instr) (instr : Instr) → (if is_some trap then None else found) ≡ Some instr → found ≡ Some instr
stands_there None found instr e = e
stands_there (Some address) found instr e = absurd (cc)

pub next_stands : (program : List Instr) (c : Cpu) (instr : Instr) → next_instruction program c ≡ Some instr → slice_get program c.place ≡ Some instr
next_stands program c instr e = stands_there c.trap (slice_get program c.place) instr e

within_if : (program : List Instr) (c d : Cpu) (s t : Contents) (act : Act) (there : Option Instr) → next_instruction program c ≡ there
    → list_all (leads_within (length program)) program ≡ true → exec_of program c s ≡ Ok (act, (d, t)) → d.place ≤ length program
within_if program c d s t act None is lead e =
    let refused : ◌≡◌ {A = Outcome} (Err Halted) (Ok (act, (d, t))) = sym (ap (exec_with c s) is) ∙ e in
    absurd (cc)
within_if program c d s t act (Some instr) is lead e =
    place_after c d s t act (length program) (slice_get_within program c.place instr (next_stands program c instr is)) instr (all_at (leads_within (length program)) program c.place instr lead (next_stands program c instr is)) (run_only program c d s t act instr is e)

pub stays_within : (program : List Instr) (c d : Cpu) (s t : Contents) (act : Act) → is_program program ≡ true
    → exec_of program c s ≡ Ok (act, (d, t)) → d.place ≤ length program
stays_within program c d s t act is e =
    let parts = and_parts (nat_le (length program) max_instructions) (list_all (leads_within (length program)) program) is in
    within_if program c d s t act (next_instruction program c) refl parts.1 e
