-- What is read is spelled as in the table.
use Rattle.std.proofs.Common.{◌≡◌, ℕ, ◌+◌, ◌-◌, ◌*◌, ◌/◌, ◌%◌, ◌^◌, ◌<◌, ◌≤◌, ℤ, Bool, true, false, cond, eqb, ltb, List, [], ◌∷◌, ◌++◌, Option, Some, None, refl, sym, ap, subst, ◌∙◌, append_assoc, arith, inl, inr}
use Rattle.std.specs.Prelude.{◌&&◌, ◌==◌, not}
use Rattle.std.specs.Int.{w32, to_le_bytes, cast_signed}
use Rattle.std.proofs.lemmas.Bool.{ltb-false, ltb-true, eqb-true, cases_lt, lt-ltb, le-ltb}
use Rattle.std.proofs.lemmas.Int.{of_z-to_z}
use Rattle.std.proofs.Math.Facts.{sfits_to_z}
use Rattle.isa.specs.declared.register.Reg.{Reg}
use Rattle.isa.specs.declared.register.Reg.TheVariants.{Rax, Rcx, Rdx, Rbx, Rsi, Rdi, R8, R9}
use Rattle.isa.specs.declared.instr.Access.{Access}
use Rattle.isa.specs.declared.instr.Access.TheVariants.{Load, Store, Locked, Flush}
use Rattle.isa.specs.declared.instr.Computation.{Computation}
use Rattle.isa.specs.declared.instr.Computation.TheVariants.{Add, Compare}
use Rattle.isa.specs.declared.instr.FlushKind.{FlushKind}
use Rattle.isa.specs.declared.instr.FlushKind.TheVariants.{Clflush, Clflushopt, Clwb}
use Rattle.isa.specs.declared.instr.JumpKind.{JumpKind}
use Rattle.isa.specs.declared.instr.JumpKind.TheVariants.{Always, IfZero, IfNotZero}
use Rattle.isa.specs.declared.instr.LockedOperation.{LockedOperation}
use Rattle.isa.specs.declared.instr.LockedOperation.TheVariants.{Exchange, ExchangeAdd, CompareExchange}
use Rattle.isa.specs.declared.instr.Source.TheVariants as sources
use Rattle.isa.specs.Immediates.{sign_extended}
use Rattle.codec.specs.declared.form.Address.{Address}
use Rattle.codec.specs.declared.form.Address.TheVariants.{Absolute, Register}
use Rattle.codec.specs.declared.form.Form.{Form}
use Rattle.codec.specs.declared.form.Form.TheVariants.{Set, Compute, Jump, Memory}
use Rattle.codec.specs.Forms.{number, rex, modrm, base, short_rex, memory, immediate, distance, bytes_of, Fits, AccessFits, AddressFits, ImmediateFits}
use Rattle.codec.specs.Reading.{Reader, Done, Refuse, Literal, Byte, Number, reg_of, with_reg, mode, reg_field, rm_field, operand, register_and_memory, flush, jump, strong_flush, after_0fae, after_0f, after_41, weak_flush, after_66, locked, locked_behind, after_f0, move_from, compute, arithmetic, store_immediate, move_immediate, after_rex, first}
use Rattle.codec.proofs.Numbers.{wide32, wide64}
use Rattle.codec.proofs.Readers.{Spells}

spells_by : (q : Bool) (b c : ℕ) (x y : Reader) (front : List ℕ) → eqb b c ≡ q → Spells x (front ++ c ∷ []) → Spells y (front ++ b ∷ []) → Spells (cond q x y) (front ++ b ∷ [])
spells_by true b c x y front e s t = subst (λ (d : ℕ). Spells x (front ++ d ∷ [])) (sym (eqb-true b c e)) s
spells_by false b c x y front e s t = t

-- where the last byte is tested
spells_if : (b c : ℕ) (x y : Reader) (front : List ℕ) → Spells x (front ++ c ∷ []) → Spells y (front ++ b ∷ []) → Spells (cond (eqb b c) x y) (front ++ b ∷ [])
spells_if b c x y front s t = spells_by (eqb b c) b c x y front refl s t

spells_cases : (q : Bool) (x y : Reader) (front : List ℕ) → (q ≡ true → Spells x front) → Spells y front → Spells (cond q x y) front
spells_cases true x y front s t = s refl
spells_cases false x y front s t = t

spells_where : (q : Bool) (x : Reader) (front : List ℕ) → (q ≡ true → Spells x front) → Spells (cond q x Refuse) front
spells_where q x front s = spells_cases q x Refuse front s tt

spells_unless : (q : Bool) (x : Reader) (front : List ℕ) → (q ≡ false → Spells x front) → Spells (cond q Refuse x) front
spells_unless true x front s = tt
spells_unless false x front s = s refl

spells_reg : (o : Option Reg) (next : Reg → Reader) (front : List ℕ) → ((r : Reg) → o ≡ Some r → Spells (next r) front) → Spells (with_reg o next) front
spells_reg None next front s = tt
spells_reg (Some r) next front s = s r refl

-- numbers

low_bits : (n : ℕ) → n < 2 ^ 32 → sign_extended n % 2 ^ 32 ≡ n
low_bits n lt =
    elim (cases_lt n (2 ^ 31)) [
      | inl low ↦ rw (lt-ltb n (2 ^ 31) low) (omega arith)
      | inr high ↦ rw (le-ltb n (2 ^ 31) high) (omega arith)
    ]

spells_immediate : (front : List ℕ) (make : ℕ → Form) → ((n : ℕ) → bytes_of (make n) ≡ front ++ immediate n) → ((n : ℕ) → ImmediateFits n → Fits (make n)) → Spells (Number w32 (λ n. Done (make (sign_extended n)))) front
unfolding immediate
spells_immediate front make e f =
    (2 ^ 32, wide32, λ n lt. (e (sign_extended n) ∙ ap (λ (k : ℕ). front ++ to_le_bytes w32 k) (low_bits n lt), f (sign_extended n) (ap sign_extended (low_bits n lt))))

-- registers

-- 1 where the register is r8 or r9
abbrev bit : Bool → ℕ
bit false = 0
bit true = 1

record IsNamed (h : Bool) (n : ℕ) (r : Reg) : Type 0 where
  low : n ≡ number r % 8
  high : number r / 8 ≡ bit h

named_here : (q : Bool) (h : Bool) (n c : ℕ) (a r : Reg) (o : Option Reg) → eqb n c ≡ q → IsNamed h c a → (o ≡ Some r → IsNamed h n r) → cond q (Some a) o ≡ Some r → IsNamed h n r
named_here true h n c a r o e p f g =
    let same : a ≡ r = cc in
    subst (λ (x : Reg). IsNamed h n x) same (subst (λ (k : ℕ). IsNamed h k a) (sym (eqb-true n c e)) p)
named_here false h n c a r o e p f g = f g

named : (h : Bool) (n : ℕ) (r : Reg) → reg_of h n ≡ Some r → IsNamed h n r
named false n r e =
    named_here (eqb n 0) false n 0 Rax r _ refl (record { low = refl; high = refl })
    (named_here (eqb n 1) false n 1 Rcx r _ refl (record { low = refl; high = refl })
    (named_here (eqb n 2) false n 2 Rdx r _ refl (record { low = refl; high = refl })
    (named_here (eqb n 3) false n 3 Rbx r _ refl (record { low = refl; high = refl })
    (named_here (eqb n 6) false n 6 Rsi r _ refl (record { low = refl; high = refl })
    (named_here (eqb n 7) false n 7 Rdi r None refl (record { low = refl; high = refl }) (λ f. absurd cc)))))) e
named true n r e =
    named_here (eqb n 0) true n 0 R8 r _ refl (record { low = refl; high = refl })
    (named_here (eqb n 1) true n 1 R9 r None refl (record { low = refl; high = refl }) (λ f. absurd cc)) e

abbrev rex_of : Bool → Bool → ℕ
rex_of r b = 0x48 + 4 * bit r + bit b

-- the ModRM byte of a memory operand
address_byte : (m reg : ℕ) → m < 256 → mode m ≡ 0 → rm_field m ≡ 4 → reg_field m ≡ reg % 8 → modrm 0 reg 4 ≡ m
address_byte m reg lt zero_is four named_is = rw (← named_is) (omega arith)

spells_absolute : (b : Bool) (m reg : ℕ) (next : Address → Reader) (front : List ℕ) → m < 256 → mode m ≡ 0 → not b && rm_field m == 4 ≡ true → reg_field m ≡ reg % 8
    → ((p : Address) → base p / 8 ≡ bit b → AddressFits p → Spells (next p) (front ++ memory reg p)) → Spells (Literal 0x25 (Number w32 (λ a. next (Absolute a)))) (front ++ m ∷ [])
unfolding memory
spells_absolute true m reg next front lt zero_is e named_is s = absurd cc
spells_absolute false m reg next front lt zero_is e named_is s =
    let byte : modrm 0 reg 4 ≡ m = address_byte m reg lt zero_is (eqb-true _ _ e) named_is in (
      2 ^ 32,
      wide32,
      λ a small. subst (λ (bytes : List ℕ). Spells (next (Absolute a)) bytes)
          (ap (λ (k : ℕ). front ++ k ∷ 0x25 ∷ to_le_bytes w32 a) byte ∙ sym (append_assoc front (m ∷ []) (0x25 ∷ to_le_bytes w32 a)) ∙ sym (append_assoc (front ++ m ∷ []) (0x25 ∷ []) (to_le_bytes w32 a)))
          (s (Absolute a) refl small),
    )

-- the ModRM byte of a register that holds an address
holder_byte : (m reg rm : ℕ) → m < 256 → mode m ≡ 0 → reg_field m ≡ reg % 8 → rm_field m ≡ rm % 8 → modrm 0 reg rm ≡ m
holder_byte m reg rm lt zero_is reg_is rm_is = rw (← reg_is, ← rm_is) (omega arith)

spells_holder : (m reg : ℕ) (next : Address → Reader) (front : List ℕ) (r : Reg) → modrm 0 reg (number r) ≡ m
    → Spells (next (Register r)) (front ++ memory reg (Register r)) → Spells (next (Register r)) (front ++ m ∷ [])
unfolding memory
spells_holder m reg next front r byte s = subst (λ (k : ℕ). Spells (next (Register r)) (front ++ k ∷ [])) byte s

spells_operand : (b : Bool) (m reg : ℕ) (next : Address → Reader) (front : List ℕ) → m < 256 → reg_field m ≡ reg % 8
    → ((p : Address) → base p / 8 ≡ bit b → AddressFits p → Spells (next p) (front ++ memory reg p)) → Spells (operand b m next) (front ++ m ∷ [])
unfolding operand
spells_operand b m reg next front lt named_is s =
    spells_where (mode m == 0) _ _ (λ e.
    spells_cases (not b && rm_field m == 4) _ _ _ (λ f. spells_absolute b m reg next front lt (eqb-true _ _ e) f named_is s)
    (spells_reg (reg_of b (rm_field m)) _ _ (λ r f.
    (let is = named b (rm_field m) r f in
    spells_holder m reg next front r (holder_byte m reg (number r) lt (eqb-true _ _ e) named_is is.low) (s (Register r) is.high tt)))))

-- the first byte of an instruction that names a register and memory
rex_is : (r b : Bool) (reg : Reg) (p : Address) → number reg / 8 ≡ bit r → base p / 8 ≡ bit b → rex (number reg) (base p) ≡ rex_of r b
rex_is r b reg p high held = rw (high, held) refl

-- nodes with a register and a memory operand

spells_both : (make : Reg → Access) (r b : Bool) (m : ℕ) (front : List ℕ) → m < 256
    → ((reg : Reg) (p : Address) → rex (number reg) (base p) ≡ rex_of r b → bytes_of (Memory (make reg) p) ≡ front ++ memory (number reg) p)
    → ((reg : Reg) → AccessFits (make reg)) → Spells (register_and_memory make r b m) (front ++ m ∷ [])
unfolding register_and_memory
spells_both make r b m front lt bytes small =
    spells_reg (reg_of r (reg_field m)) _ _ (λ reg f.
    (let is = named r (reg_field m) reg f in
    spells_operand b m (number reg) _ front lt is.low (λ p held fits. (bytes reg p (rex_is r b reg p is.high held), (small reg, fits)))))

spells_load : (r b : Bool) (m : ℕ) → m < 256 → Spells (register_and_memory (λ reg. Load reg) r b m) (rex_of r b ∷ 0x8B ∷ m ∷ [])
unfolding bytes_of
spells_load r b m lt = spells_both (λ reg. Load reg) r b m (rex_of r b ∷ 0x8B ∷ []) lt (λ reg p e. rw e refl) (λ reg. tt)

-- the bytes of a locked operation before its memory operand
abbrev locked_front : LockedOperation → Bool → Bool → List ℕ
locked_front Exchange r b = rex_of r b ∷ 0x87 ∷ []
locked_front ExchangeAdd r b = 0xF0 ∷ rex_of r b ∷ 0x0F ∷ 0xC1 ∷ []
locked_front CompareExchange r b = 0xF0 ∷ rex_of r b ∷ 0x0F ∷ 0xB1 ∷ []

locked_bytes : (operation : LockedOperation) (r b : Bool) (reg : Reg) (p : Address) → rex (number reg) (base p) ≡ rex_of r b
    → bytes_of (Memory (Locked operation reg) p) ≡ locked_front operation r b ++ memory (number reg) p
unfolding bytes_of
locked_bytes Exchange r b reg p e = rw e refl
locked_bytes ExchangeAdd r b reg p e = rw e refl
locked_bytes CompareExchange r b reg p e = rw e refl

spells_exchange : (operation : LockedOperation) (r b : Bool) (m : ℕ) → m < 256 → Spells (register_and_memory (λ reg. Locked operation reg) r b m) (locked_front operation r b ++ m ∷ [])
spells_exchange operation r b m lt = spells_both (λ reg. Locked operation reg) r b m (locked_front operation r b) lt (locked_bytes operation r b) (λ reg. tt)

-- nodes behind 0F, 41, 66 and F0

-- 41 where B is set
abbrev rex_41 : Bool → List ℕ
rex_41 false = []
rex_41 true = 0x41 ∷ []

short_rex_is : (b : Bool) (p : Address) → base p / 8 ≡ bit b → short_rex p ≡ rex_41 b
short_rex_is false p held = let low : base p < 8 = omega arith in rw (lt-ltb (base p) 8 low) refl
short_rex_is true p held = let high : 8 ≤ base p = omega arith in rw (le-ltb (base p) 8 high) refl

-- bytes of an access that begin with these, a short REX between them
between : (front : List ℕ) (b : Bool) (p : Address) (rest : List ℕ) → base p / 8 ≡ bit b → front ++ (short_rex p ++ rest) ≡ (front ++ rex_41 b) ++ rest
between front b p rest held = ap (λ (bytes : List ℕ). front ++ (bytes ++ rest)) (short_rex_is b p held) ∙ sym (append_assoc front (rex_41 b) rest)

-- the bytes of a flush before its memory operand
abbrev flush_front : FlushKind → Bool → List ℕ
flush_front Clflush b = rex_41 b ++ 0x0F ∷ 0xAE ∷ []
flush_front Clflushopt b = (0x66 ∷ rex_41 b) ++ 0x0F ∷ 0xAE ∷ []
flush_front Clwb b = (0x66 ∷ rex_41 b) ++ 0x0F ∷ 0xAE ∷ []

-- its reg field
abbrev flush_field : FlushKind → ℕ
flush_field Clflush = 7
flush_field Clflushopt = 7
flush_field Clwb = 6

flush_bytes : (kind : FlushKind) (b : Bool) (p : Address) → base p / 8 ≡ bit b → bytes_of (Memory (Flush kind) p) ≡ flush_front kind b ++ memory (flush_field kind) p
unfolding bytes_of
flush_bytes Clflush b p held = between [] b p (0x0F ∷ 0xAE ∷ memory 7 p) held ∙ sym (append_assoc (rex_41 b) (0x0F ∷ 0xAE ∷ []) (memory 7 p))
flush_bytes Clflushopt b p held = between (0x66 ∷ []) b p (0x0F ∷ 0xAE ∷ memory 7 p) held ∙ sym (append_assoc (0x66 ∷ rex_41 b) (0x0F ∷ 0xAE ∷ []) (memory 7 p))
flush_bytes Clwb b p held = between (0x66 ∷ []) b p (0x0F ∷ 0xAE ∷ memory 6 p) held ∙ sym (append_assoc (0x66 ∷ rex_41 b) (0x0F ∷ 0xAE ∷ []) (memory 6 p))

spells_flush : (kind : FlushKind) (b : Bool) (m : ℕ) → m < 256 → reg_field m ≡ flush_field kind % 8 → Spells (flush kind b m) (flush_front kind b ++ m ∷ [])
unfolding flush
spells_flush kind b m lt is = spells_operand b m (flush_field kind) _ (flush_front kind b) lt is (λ p held fits. (flush_bytes kind b p held, (tt, fits)))

spells_strong_flush : (b : Bool) (m : ℕ) → m < 256 → Spells (strong_flush b m) (flush_front Clflush b ++ m ∷ [])
unfolding strong_flush
spells_strong_flush b m lt = spells_where (eqb (reg_field m) 7) _ _ (λ e. spells_flush Clflush b m lt (eqb-true _ _ e))

-- the opcode of a jump
abbrev jump_front : JumpKind → List ℕ
jump_front Always = 0xE9 ∷ []
jump_front IfZero = 0x0F ∷ 0x84 ∷ []
jump_front IfNotZero = 0x0F ∷ 0x85 ∷ []

jump_bytes : (kind : JumpKind) (z : ℤ) → bytes_of (Jump kind z) ≡ jump_front kind ++ distance z
unfolding bytes_of
jump_bytes Always z = refl
jump_bytes IfZero z = refl
jump_bytes IfNotZero z = refl

spells_jump : (kind : JumpKind) → Spells (jump kind) (jump_front kind)
unfolding jump distance
spells_jump kind =
    (2 ^ 32, wide32, λ n lt. (jump_bytes kind (cast_signed w32 n) ∙ ap (λ (k : ℕ). jump_front kind ++ to_le_bytes w32 k) (of_z-to_z w32 n lt), sfits_to_z (record { fits = lt })))

spells_after_0fae : (m : ℕ) → m < 256 → Spells (after_0fae m) (0x0F ∷ 0xAE ∷ m ∷ [])
unfolding after_0fae bytes_of
spells_after_0fae m lt =
    spells_if m 0xF0 _ _ (0x0F ∷ 0xAE ∷ []) (refl, tt)
    (spells_if m 0xF8 _ _ (0x0F ∷ 0xAE ∷ []) (refl, tt) (spells_strong_flush false m lt))

spells_after_0f : (b : ℕ) → Spells (after_0f b) (0x0F ∷ b ∷ [])
unfolding after_0f bytes_of
spells_after_0f b =
    spells_if b 0xAE _ _ (0x0F ∷ []) (λ c lt. spells_after_0fae c lt)
    (spells_if b 0x84 _ _ (0x0F ∷ []) (spells_jump IfZero)
    (spells_if b 0x85 _ _ (0x0F ∷ []) (spells_jump IfNotZero) tt))

spells_after_41 : Spells after_41 (0x41 ∷ [])
unfolding after_41
spells_after_41 = λ m lt. spells_strong_flush true m lt

spells_weak_flush : (b : Bool) (m : ℕ) → m < 256 → Spells (weak_flush b m) (((0x66 ∷ rex_41 b) ++ 0x0F ∷ 0xAE ∷ []) ++ m ∷ [])
unfolding weak_flush
spells_weak_flush b m lt =
    spells_cases (eqb (reg_field m) 7) _ _ _ (λ e. spells_flush Clflushopt b m lt (eqb-true _ _ e))
    (spells_where (eqb (reg_field m) 6) _ _ (λ e. spells_flush Clwb b m lt (eqb-true _ _ e)))

spells_after_66 : (c : ℕ) → Spells (after_66 c) (0x66 ∷ c ∷ [])
unfolding after_66
spells_after_66 c =
    spells_if c 0x0F _ _ (0x66 ∷ []) (λ m lt. spells_weak_flush false m lt)
    (spells_if c 0x41 _ _ (0x66 ∷ []) (λ m lt. spells_weak_flush true m lt) tt)

spells_locked : (r b : Bool) (op : ℕ) → Spells (locked r b op) (0xF0 ∷ rex_of r b ∷ 0x0F ∷ op ∷ [])
unfolding locked
spells_locked r b op =
    spells_if op 0xC1 _ _ (0xF0 ∷ rex_of r b ∷ 0x0F ∷ []) (λ m lt. spells_exchange ExchangeAdd r b m lt)
    (spells_if op 0xB1 _ _ (0xF0 ∷ rex_of r b ∷ 0x0F ∷ []) (λ m lt. spells_exchange CompareExchange r b m lt) tt)

spells_locked_behind : (r b : Bool) → Spells (locked_behind r b) (0xF0 ∷ rex_of r b ∷ [])
unfolding locked_behind
spells_locked_behind r b = λ op lt. spells_locked r b op

spells_after_f0 : (c : ℕ) → Spells (after_f0 c) (0xF0 ∷ c ∷ [])
unfolding after_f0
spells_after_f0 c =
    spells_if c 0x48 _ _ (0xF0 ∷ []) (spells_locked_behind false false)
    (spells_if c 0x49 _ _ (0xF0 ∷ []) (spells_locked_behind false true)
    (spells_if c 0x4C _ _ (0xF0 ∷ []) (spells_locked_behind true false)
    (spells_if c 0x4D _ _ (0xF0 ∷ []) (spells_locked_behind true true) tt)))

-- nodes behind REX

-- the ModRM byte of two registers, or of a register and what else stands in its fields
register_byte : (m reg rm : ℕ) → m < 256 → 3 ≤ mode m → reg_field m ≡ reg % 8 → rm_field m ≡ rm % 8 → modrm 3 reg rm ≡ m
register_byte m reg rm lt three reg_is rm_is = rw (← reg_is, ← rm_is) (omega arith)

spells_move_register : (r b : Bool) (m : ℕ) (from : Reg) → m < 256 → mode m ≡ 3 → IsNamed r (reg_field m) from
    → Spells (with_reg (reg_of b (rm_field m)) (λ to. Done (Set to (sources.Register from)))) (rex_of r b ∷ 0x89 ∷ m ∷ [])
unfolding bytes_of
spells_move_register r b m from lt three is =
    spells_reg (reg_of b (rm_field m)) _ _ (λ to t.
    (let other = named b (rm_field m) to t in
    let first : rex (number from) (number to) ≡ rex_of r b = rw (is.high, other.high) refl in
    let last : modrm 3 (number from) (number to) ≡ m = register_byte m (number from) (number to) lt (omega arith) is.low other.low in
    (rw (first, last) refl, tt)))

spells_store : (r b : Bool) (m : ℕ) (from : Reg) → m < 256 → IsNamed r (reg_field m) from
    → Spells (operand b m (λ p. Done (Memory (Store (sources.Register from)) p))) (rex_of r b ∷ 0x89 ∷ m ∷ [])
unfolding bytes_of
spells_store r b m from lt is =
    spells_operand b m (number from) _ (rex_of r b ∷ 0x89 ∷ []) lt is.low (λ p held fits. (rw (rex_is r b from p is.high held) refl, (tt, fits)))

spells_move_from : (r b : Bool) (m : ℕ) → m < 256 → Spells (move_from r b m) (rex_of r b ∷ 0x89 ∷ m ∷ [])
unfolding move_from
spells_move_from r b m lt =
    spells_reg (reg_of r (reg_field m)) _ _ (λ from f.
    spells_cases (eqb (mode m) 3) _ _ _ (λ e. spells_move_register r b m from lt (eqb-true _ _ e) (named r (reg_field m) from f))
    (spells_store r b m from lt (named r (reg_field m) from f)))

-- the reg field of a computation
abbrev compute_field : Computation → ℕ
compute_field Add = 0
compute_field Compare = 7

compute_bytes : (operation : Computation) (to : Reg) (n : ℕ) → bytes_of (Compute operation to n) ≡ rex 0 (number to) ∷ 0x81 ∷ modrm 3 (compute_field operation) (number to) ∷ immediate n
unfolding bytes_of
compute_bytes Add to n = refl
compute_bytes Compare to n = refl

spells_compute : (operation : Computation) (b : Bool) (m : ℕ) → m < 256 → 3 ≤ mode m → reg_field m ≡ compute_field operation % 8 → Spells (compute operation b m) (rex_of false b ∷ 0x81 ∷ m ∷ [])
unfolding compute
spells_compute operation b m lt three field =
    spells_reg (reg_of b (rm_field m)) _ _ (λ to t.
    (let is = named b (rm_field m) to t in
    let first : rex 0 (number to) ≡ rex_of false b = rw (is.high) refl in
    let last : modrm 3 (compute_field operation) (number to) ≡ m = register_byte m (compute_field operation) (number to) lt three field is.low in
    spells_immediate (rex_of false b ∷ 0x81 ∷ m ∷ []) (λ n. Compute operation to n) (λ n. compute_bytes operation to n ∙ rw (first, last) refl) (λ n f. f)))

spells_arithmetic : (b : Bool) (m : ℕ) → m < 256 → Spells (arithmetic b m) (rex_of false b ∷ 0x81 ∷ m ∷ [])
unfolding arithmetic
spells_arithmetic b m lt =
    spells_unless (ltb (mode m) 3) _ _ (λ low.
    spells_cases (eqb (reg_field m) 0) _ _ _ (λ e. spells_compute Add b m lt (ltb-false _ _ low) (eqb-true _ _ e))
    (spells_where (eqb (reg_field m) 7) _ _ (λ e. spells_compute Compare b m lt (ltb-false _ _ low) (eqb-true _ _ e))))

spells_store_immediate : (b : Bool) (m : ℕ) → m < 256 → Spells (store_immediate b m) (rex_of false b ∷ 0xC7 ∷ m ∷ [])
unfolding store_immediate bytes_of
spells_store_immediate b m lt =
    spells_where (eqb (reg_field m) 0) _ _ (λ e.
    spells_operand b m 0 _ (rex_of false b ∷ 0xC7 ∷ []) lt (eqb-true _ _ e) (λ p held fits.
    (let first : rex 0 (base p) ≡ rex_of false b = rw held refl in
    spells_immediate (rex_of false b ∷ 0xC7 ∷ memory 0 p) (λ n. Memory (Store (sources.Number n)) p) (λ n. rw first refl) (λ n f. (f, fits)))))

spells_move_immediate : (b : Bool) (op : ℕ) → 0xB8 ≤ op → op < 0xC0 → Spells (move_immediate b op) (rex_of false b ∷ op ∷ [])
unfolding move_immediate bytes_of
spells_move_immediate b op low high =
    spells_reg (reg_of b (op - 0xB8)) _ _ (λ r f.
    (let is = named b (op - 0xB8) r f in
    let first : rex 0 (number r) ≡ rex_of false b = rw (is.high) refl in
    let last : 0xB8 + number r % 8 ≡ op = rw (← is.low) (omega arith) in
    (2 ^ 64, wide64, λ n lt. (rw (first, last) refl, lt))))

spells_after_rex : (r b : Bool) (op : ℕ) → Spells (after_rex r b op) (rex_of r b ∷ op ∷ [])
unfolding after_rex
spells_after_rex r b op =
    spells_if op 0x89 _ _ (rex_of r b ∷ []) (λ m lt. spells_move_from r b m lt)
    (spells_if op 0x8B _ _ (rex_of r b ∷ []) (λ m lt. spells_load r b m lt)
    (spells_if op 0x87 _ _ (rex_of r b ∷ []) (λ m lt. spells_exchange Exchange r b m lt)
    (spells_if op 0x81 _ _ (rex_of r b ∷ []) (spells_unless r _ _ (λ er m lt. rw er (spells_arithmetic b m lt)))
    (spells_if op 0xC7 _ _ (rex_of r b ∷ []) (spells_unless r _ _ (λ er m lt. rw er (spells_store_immediate b m lt)))
    (spells_unless (ltb op 0xB8) _ _ (λ low. spells_where (ltb op 0xC0) _ _ (λ high. spells_unless r _ _ (λ er. rw er (spells_move_immediate b op (ltb-false _ _ low) (ltb-true _ _ high))))))))))

pub spells_all : Spells (Byte first) []
unfolding first bytes_of
spells_all b lt =
    spells_if b 0x90 _ _ [] (refl, tt)
    (spells_if b 0xE9 _ _ [] (spells_jump Always)
    (spells_if b 0x0F _ _ [] (λ c l. spells_after_0f c)
    (spells_if b 0x41 _ _ [] spells_after_41
    (spells_if b 0x66 _ _ [] (λ c l. spells_after_66 c)
    (spells_if b 0xF0 _ _ [] (λ c l. spells_after_f0 c)
    (spells_if b 0x48 _ _ [] (λ c l. spells_after_rex false false c)
    (spells_if b 0x49 _ _ [] (λ c l. spells_after_rex false true c)
    (spells_if b 0x4C _ _ [] (λ c l. spells_after_rex true false c)
    (spells_if b 0x4D _ _ [] (λ c l. spells_after_rex true true c) tt)))))))))
