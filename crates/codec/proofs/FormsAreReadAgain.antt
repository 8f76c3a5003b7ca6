-- Each form is read again, whatever follows it.
use Rattle.std.proofs.Common.{◌≡◌, ℕ, ◌+◌, ◌*◌, ◌/◌, ◌%◌, ◌^◌, ◌<◌, ℤ, Bool, true, false, List, ◌∷◌, ◌++◌, Result, Ok, refl, ap, ◌∙◌, append_assoc, arith}
use Rattle.std.specs.Prelude.{FitsSigned}
use Rattle.std.specs.Int.{w32, w64, to_le_bytes, cast_signed, cast_unsigned}
use Rattle.std.proofs.lemmas.Int.{to_z-of_z, ints}
use Rattle.std.proofs.lemmas.Nat.{from_le_bytes-to_le_bytes_4, from_le_bytes-to_le_bytes_8}
use Rattle.outcomes.specs.Outcomes.{◌>>=◌}
use Rattle.isa.specs.declared.register.Reg.{Reg}
use Rattle.isa.specs.declared.register.Reg.TheVariants.{Rax, Rcx, Rdx, Rbx, Rsi, Rdi, R8, R9}
use Rattle.isa.specs.declared.instr.Access.{Access}
use Rattle.isa.specs.declared.instr.Access.TheVariants.{Load, Store, Locked, Flush}
use Rattle.isa.specs.declared.instr.Computation.{Computation}
use Rattle.isa.specs.declared.instr.Computation.TheVariants.{Add, Compare}
use Rattle.isa.specs.declared.instr.FenceKind.TheVariants.{Mfence, Sfence}
use Rattle.isa.specs.declared.instr.FlushKind.{FlushKind}
use Rattle.isa.specs.declared.instr.FlushKind.TheVariants.{Clflush, Clflushopt, Clwb}
use Rattle.isa.specs.declared.instr.JumpKind.{JumpKind}
use Rattle.isa.specs.declared.instr.JumpKind.TheVariants.{Always, IfZero, IfNotZero}
use Rattle.isa.specs.declared.instr.LockedOperation.{LockedOperation}
use Rattle.isa.specs.declared.instr.LockedOperation.TheVariants.{Exchange, ExchangeAdd, CompareExchange}
use Rattle.isa.specs.declared.instr.Source.TheVariants as sources
use Rattle.isa.specs.Immediates.{sign_extended}
use Rattle.codec.specs.declared.form.Address.{Address}
use Rattle.codec.specs.declared.form.Address.TheVariants.{Absolute, Register}
use Rattle.codec.specs.declared.form.Form.{Form}
use Rattle.codec.specs.declared.form.Form.TheVariants.{Set, Compute, Jump, Nop, Memory, Fence}
use Rattle.codec.specs.declared.form.Miss.{Miss}
use Rattle.codec.specs.Forms.{number, rex, modrm, base, memory, immediate, distance, bytes_of, Fits, AddressFits, ImmediateFits}
use Rattle.codec.specs.Reading.{Reader, Done, Byte, Number, run, mode, operand, register_and_memory, flush, jump, strong_flush, after_0fae, after_0f, after_41, weak_flush, after_66, locked, locked_behind, after_f0, move_from, compute, arithmetic, store_immediate, move_immediate, after_rex, first, form_at}
use Rattle.codec.proofs.Readers.{number_exact}

-- what holds of each register
each_reg : (P : Reg → Type 0) → P Rax → P Rcx → P Rdx → P Rbx → P Rsi → P Rdi → P R8 → P R9 → (r : Reg) → P r
each_reg P a b c d e f g h Rax = a
each_reg P a b c d e f g h Rcx = b
each_reg P a b c d e f g h Rdx = c
each_reg P a b c d e f g h Rbx = d
each_reg P a b c d e f g h Rsi = e
each_reg P a b c d e f g h Rdi = f
each_reg P a b c d e f g h R8 = g
each_reg P a b c d e f g h R9 = h

-- numbers that are read again

number_then32 : (n : ℕ) (rest : List ℕ) (next : ℕ → Reader) → n < 2 ^ 32 → run (Number w32 next) (to_le_bytes w32 n ++ rest) ≡ run (next n) rest
number_then32 n rest next lt =
    ap (λ (r : Result (ℕ × List ℕ) Miss). r >>= λ x. run (next x.0) x.1) (number_exact w32 (to_le_bytes w32 n) rest refl) ∙ ap (λ (k : ℕ). run (next k) rest) (from_le_bytes-to_le_bytes_4 n lt)

number_then64 : (n : ℕ) (rest : List ℕ) (next : ℕ → Reader) → n < 2 ^ 64 → run (Number w64 next) (to_le_bytes w64 n ++ rest) ≡ run (next n) rest
number_then64 n rest next lt =
    ap (λ (r : Result (ℕ × List ℕ) Miss). r >>= λ x. run (next x.0) x.1) (number_exact w64 (to_le_bytes w64 n) rest refl) ∙ ap (λ (k : ℕ). run (next k) rest) (from_le_bytes-to_le_bytes_8 n lt)

distance_then : (d : ℤ) (rest : List ℕ) (make : ℤ → Form) → FitsSigned w32 d → run (Number w32 (λ n. Done (make (cast_signed w32 n)))) (distance d ++ rest) ≡ Ok (make d, rest)
unfolding distance
distance_then d rest make fits =
    let lt : cast_unsigned w32 d < 2 ^ 32 = omega (arith, ints) in
    number_then32 (cast_unsigned w32 d) rest (λ n. Done (make (cast_signed w32 n))) lt ∙ ap (λ (z : ℤ). Ok (make z, rest)) (to_z-of_z w32 d fits)

immediate_then : (n : ℕ) (rest : List ℕ) (make : ℕ → Form) → ImmediateFits n → run (Number w32 (λ k. Done (make (sign_extended k)))) (immediate n ++ rest) ≡ Ok (make n, rest)
unfolding immediate
immediate_then n rest make fits =
    let lt : n % 2 ^ 32 < 2 ^ 32 = omega arith in
    number_then32 (n % 2 ^ 32) rest (λ k. Done (make (sign_extended k))) lt ∙ ap (λ (k : ℕ). Ok (make k, rest)) fits

-- what is read of these bytes
abbrev Reading : Form → List ℕ → List ℕ → Type 0
Reading x bytes rest = form_at (bytes ++ rest) ≡ Ok (x, rest)

-- the first byte of an instruction with operands of 64 bits

-- whether a register is r8 or r9
abbrev high : Reg → Bool
high R8 = true
high R9 = true
high _ = false

-- whether r8 or r9 holds an address
abbrev high_base : Address → Bool
high_base (Absolute a) = false
high_base (Register r) = high r

-- 1 where it is so
abbrev bit : Bool → ℕ
bit false = 0
bit true = 1

number_high : (r : Reg) → number r / 8 ≡ bit (high r)
number_high r = each_reg (λ q. number q / 8 ≡ bit (high q)) refl refl refl refl refl refl refl refl r

base_is_high : (p : Address) → base p / 8 ≡ bit (high_base p)
base_is_high (Absolute a) = refl
base_is_high (Register r) = number_high r

rex_high : (r : Reg) (p : Address) → rex (number r) (base p) ≡ 0x48 + 4 * bit (high r) + bit (high_base p)
rex_high r p = rw (number_high r, base_is_high p) refl

first_high : (r b : Bool) (bytes : List ℕ) → run (first (0x48 + 4 * bit r + bit b)) bytes ≡ run (Byte (after_rex r b)) bytes
unfolding first
first_high false false bytes = refl
first_high false true bytes = refl
first_high true false bytes = refl
first_high true true bytes = refl

rex_then : (r : Reg) (p : Address) (bytes : List ℕ) → run (first (rex (number r) (base p))) bytes ≡ run (Byte (after_rex (high r) (high_base p))) bytes
rex_then r p bytes = ap (λ (b : ℕ). run (first b) bytes) (rex_high r p) ∙ first_high (high r) (high_base p) bytes

locked_high : (r b : Bool) (bytes : List ℕ) → run (after_f0 (0x48 + 4 * bit r + bit b)) bytes ≡ run (locked_behind r b) bytes
unfolding after_f0
locked_high false false bytes = refl
locked_high false true bytes = refl
locked_high true false bytes = refl
locked_high true true bytes = refl

locked_then : (r : Reg) (p : Address) (bytes : List ℕ) → run (after_f0 (rex (number r) (base p))) bytes ≡ run (locked_behind (high r) (high_base p)) bytes
locked_then r p bytes = ap (λ (b : ℕ). run (after_f0 b) bytes) (rex_high r p) ∙ locked_high (high r) (high_base p) bytes

-- forms with a register and a memory operand

both_again : (make : Reg → Access) (r : Reg) (p : Address) (rest : List ℕ) → AddressFits p
    → run (Byte (register_and_memory make (high r) (high_base p))) (memory (number r) p ++ rest) ≡ Ok (Memory (make r) p, rest)
unfolding memory register_and_memory operand
both_again make r (Absolute a) rest lt =
    let P : Reg → Type 0 = λ q. run (Byte (register_and_memory make (high q) false)) (memory (number q) (Absolute a) ++ rest) ≡ Ok (Memory (make q) (Absolute a), rest) in
    let f : (q : Reg) → run (Number w32 (λ n. Done (Memory (make q) (Absolute n)))) (to_le_bytes w32 a ++ rest) ≡ Ok (Memory (make q) (Absolute a), rest) = λ q. number_then32 a rest (λ n. Done (Memory (make q) (Absolute n))) lt in
    each_reg P (f Rax) (f Rcx) (f Rdx) (f Rbx) (f Rsi) (f Rdi) (f R8) (f R9) r
both_again make r (Register b) rest fits =
    let P : Reg → Reg → Type 0 = λ a q. run (Byte (register_and_memory make (high a) (high q))) (memory (number a) (Register q) ++ rest) ≡ Ok (Memory (make a) (Register q), rest) in
    each_reg (λ a. P a b)
    (each_reg (P Rax) refl refl refl refl refl refl refl refl b)
    (each_reg (P Rcx) refl refl refl refl refl refl refl refl b)
    (each_reg (P Rdx) refl refl refl refl refl refl refl refl b)
    (each_reg (P Rbx) refl refl refl refl refl refl refl refl b)
    (each_reg (P Rsi) refl refl refl refl refl refl refl refl b)
    (each_reg (P Rdi) refl refl refl refl refl refl refl refl b)
    (each_reg (P R8) refl refl refl refl refl refl refl refl b)
    (each_reg (P R9) refl refl refl refl refl refl refl refl b)
    r

load_again : (r : Reg) (p : Address) (rest : List ℕ) → AddressFits p → Reading (Memory (Load r) p) (bytes_of (Memory (Load r) p)) rest
unfolding bytes_of after_rex
load_again r p rest fits = rex_then r p (0x8B ∷ (memory (number r) p ++ rest)) ∙ both_again (λ reg. Load reg) r p rest fits

-- where the mode is that of memory, 89 stores
store_reads : (r b : Bool) (m : ℕ) → mode m ≡ 0 → move_from r b m ≡ register_and_memory (λ from. Store (sources.Register from)) r b m
unfolding move_from register_and_memory
store_reads r b m e = rw e refl

store_then : (r b : Bool) (reg : ℕ) (p : Address) (rest : List ℕ)
    → run (Byte (move_from r b)) (memory reg p ++ rest) ≡ run (Byte (register_and_memory (λ from. Store (sources.Register from)) r b)) (memory reg p ++ rest)
unfolding memory
store_then r b reg (Absolute a) rest = ap (λ (next : Reader). run next (0x25 ∷ (to_le_bytes w32 a ++ rest))) (store_reads r b (modrm 0 reg 4) (omega arith))
store_then r b reg (Register q) rest = ap (λ (next : Reader). run next rest) (store_reads r b (modrm 0 reg (number q)) (omega arith))

store_again : (r : Reg) (p : Address) (rest : List ℕ) → AddressFits p → Reading (Memory (Store (sources.Register r)) p) (bytes_of (Memory (Store (sources.Register r)) p)) rest
unfolding bytes_of after_rex
store_again r p rest fits =
    rex_then r p (0x89 ∷ (memory (number r) p ++ rest)) ∙ store_then (high r) (high_base p) (number r) p rest ∙ both_again (λ from. Store (sources.Register from)) r p rest fits

locked_again : (operation : LockedOperation) (r : Reg) (p : Address) (rest : List ℕ) → AddressFits p → Reading (Memory (Locked operation r) p) (bytes_of (Memory (Locked operation r) p)) rest
unfolding bytes_of first after_rex locked_behind locked
locked_again Exchange r p rest fits = rex_then r p (0x87 ∷ (memory (number r) p ++ rest)) ∙ both_again (λ reg. Locked Exchange reg) r p rest fits
locked_again ExchangeAdd r p rest fits = locked_then r p (0x0F ∷ 0xC1 ∷ (memory (number r) p ++ rest)) ∙ both_again (λ reg. Locked ExchangeAdd reg) r p rest fits
locked_again CompareExchange r p rest fits = locked_then r p (0x0F ∷ 0xB1 ∷ (memory (number r) p ++ rest)) ∙ both_again (λ reg. Locked CompareExchange reg) r p rest fits

-- forms with a memory operand alone

store_immediate_again : (a n : ℕ) (rest : List ℕ) → a < 2 ^ 32 → ImmediateFits n → Reading (Memory (Store (sources.Number n)) (Absolute a)) (bytes_of (Memory (Store (sources.Number n)) (Absolute a))) rest
unfolding bytes_of memory first after_rex store_immediate operand
store_immediate_again a n rest lt fits =
    ap (λ (bytes : List ℕ). run (Number w32 (λ k. Number w32 (λ j. Done (Memory (Store (sources.Number (sign_extended j))) (Absolute k))))) bytes) (append_assoc (to_le_bytes w32 a) (immediate n) rest)
    ∙ number_then32 a (immediate n ++ rest) (λ k. Number w32 (λ j. Done (Memory (Store (sources.Number (sign_extended j))) (Absolute k)))) lt
    ∙ immediate_then n rest (λ j. Memory (Store (sources.Number j)) (Absolute a)) fits

store_immediate_held : (b : Reg) (n : ℕ) (rest : List ℕ) → ImmediateFits n → Reading (Memory (Store (sources.Number n)) (Register b)) (bytes_of (Memory (Store (sources.Number n)) (Register b))) rest
unfolding bytes_of memory first after_rex store_immediate operand
store_immediate_held b n rest fits =
    let P : Reg → Type 0 = λ q. Reading (Memory (Store (sources.Number n)) (Register q)) (bytes_of (Memory (Store (sources.Number n)) (Register q))) rest in
    let f : (q : Reg) → run (Number w32 (λ k. Done (Memory (Store (sources.Number (sign_extended k))) (Register q)))) (immediate n ++ rest) ≡ Ok (Memory (Store (sources.Number n)) (Register q), rest) = λ q. immediate_then n rest (λ k. Memory (Store (sources.Number k)) (Register q)) fits in
    each_reg P (f Rax) (f Rcx) (f Rdx) (f Rbx) (f Rsi) (f Rdi) (f R8) (f R9) b

flush_again : (kind : FlushKind) (a : ℕ) (rest : List ℕ) → a < 2 ^ 32 → Reading (Memory (Flush kind) (Absolute a)) (bytes_of (Memory (Flush kind) (Absolute a))) rest
unfolding bytes_of memory first after_0f after_0fae strong_flush after_66 weak_flush flush operand
flush_again Clflush a rest lt = number_then32 a rest (λ n. Done (Memory (Flush Clflush) (Absolute n))) lt
flush_again Clflushopt a rest lt = number_then32 a rest (λ n. Done (Memory (Flush Clflushopt) (Absolute n))) lt
flush_again Clwb a rest lt = number_then32 a rest (λ n. Done (Memory (Flush Clwb) (Absolute n))) lt

flush_held : (kind : FlushKind) (b : Reg) (rest : List ℕ) → Reading (Memory (Flush kind) (Register b)) (bytes_of (Memory (Flush kind) (Register b))) rest
unfolding bytes_of memory first after_0f after_0fae after_41 strong_flush after_66 weak_flush flush operand
flush_held Clflush b rest = each_reg (λ q. Reading (Memory (Flush Clflush) (Register q)) (bytes_of (Memory (Flush Clflush) (Register q))) rest) refl refl refl refl refl refl refl refl b
flush_held Clflushopt b rest = each_reg (λ q. Reading (Memory (Flush Clflushopt) (Register q)) (bytes_of (Memory (Flush Clflushopt) (Register q))) rest) refl refl refl refl refl refl refl refl b
flush_held Clwb b rest = each_reg (λ q. Reading (Memory (Flush Clwb) (Register q)) (bytes_of (Memory (Flush Clwb) (Register q))) rest) refl refl refl refl refl refl refl refl b

access_again : (access : Access) (m : Address) (rest : List ℕ) → Fits (Memory access m) → Reading (Memory access m) (bytes_of (Memory access m)) rest
access_again (Load r) m rest h = load_again r m rest h.1
access_again (Store (sources.Register r)) m rest h = store_again r m rest h.1
access_again (Store (sources.Number n)) (Absolute a) rest h = store_immediate_again a n rest h.1 h.0
access_again (Store (sources.Number n)) (Register b) rest h = store_immediate_held b n rest h.0
access_again (Locked operation r) m rest h = locked_again operation r m rest h.1
access_again (Flush kind) (Absolute a) rest h = flush_again kind a rest h.1
access_again (Flush kind) (Register b) rest h = flush_held kind b rest

-- forms with registers and numbers

set_number_again : (r : Reg) (n : ℕ) (rest : List ℕ) → n < 2 ^ 64 → Reading (Set r (sources.Number n)) (bytes_of (Set r (sources.Number n))) rest
unfolding bytes_of first after_rex move_immediate
set_number_again r n rest lt =
    let P : Reg → Type 0 = λ b. Reading (Set b (sources.Number n)) (bytes_of (Set b (sources.Number n))) rest in
    let f : (b : Reg) → run (Number w64 (λ k. Done (Set b (sources.Number k)))) (to_le_bytes w64 n ++ rest) ≡ Ok (Set b (sources.Number n), rest) = λ b. number_then64 n rest (λ k. Done (Set b (sources.Number k))) lt in
    each_reg P (f Rax) (f Rcx) (f Rdx) (f Rbx) (f Rsi) (f Rdi) (f R8) (f R9) r

compute_again : (operation : Computation) (r : Reg) (n : ℕ) (rest : List ℕ) → ImmediateFits n → Reading (Compute operation r n) (bytes_of (Compute operation r n)) rest
unfolding bytes_of first after_rex arithmetic compute
compute_again Add r n rest fits =
    let P : Reg → Type 0 = λ b. Reading (Compute Add b n) (bytes_of (Compute Add b n)) rest in
    let f : (b : Reg) → run (Number w32 (λ k. Done (Compute Add b (sign_extended k)))) (immediate n ++ rest) ≡ Ok (Compute Add b n, rest) = λ b. immediate_then n rest (λ k. Compute Add b k) fits in
    each_reg P (f Rax) (f Rcx) (f Rdx) (f Rbx) (f Rsi) (f Rdi) (f R8) (f R9) r
compute_again Compare r n rest fits =
    let P : Reg → Type 0 = λ b. Reading (Compute Compare b n) (bytes_of (Compute Compare b n)) rest in
    let f : (b : Reg) → run (Number w32 (λ k. Done (Compute Compare b (sign_extended k)))) (immediate n ++ rest) ≡ Ok (Compute Compare b n, rest) = λ b. immediate_then n rest (λ k. Compute Compare b k) fits in
    each_reg P (f Rax) (f Rcx) (f Rdx) (f Rbx) (f Rsi) (f Rdi) (f R8) (f R9) r

set_register_again : (to from : Reg) (rest : List ℕ) → Reading (Set to (sources.Register from)) (bytes_of (Set to (sources.Register from))) rest
unfolding bytes_of first after_rex move_from
set_register_again to from rest =
    let P : Reg → Reg → Type 0 = λ a b. Reading (Set a (sources.Register b)) (bytes_of (Set a (sources.Register b))) rest in
    each_reg (λ a. P a from)
    (each_reg (P Rax) refl refl refl refl refl refl refl refl from)
    (each_reg (P Rcx) refl refl refl refl refl refl refl refl from)
    (each_reg (P Rdx) refl refl refl refl refl refl refl refl from)
    (each_reg (P Rbx) refl refl refl refl refl refl refl refl from)
    (each_reg (P Rsi) refl refl refl refl refl refl refl refl from)
    (each_reg (P Rdi) refl refl refl refl refl refl refl refl from)
    (each_reg (P R8) refl refl refl refl refl refl refl refl from)
    (each_reg (P R9) refl refl refl refl refl refl refl refl from)
    to

jump_again : (kind : JumpKind) (d : ℤ) (rest : List ℕ) → FitsSigned w32 d → Reading (Jump kind d) (bytes_of (Jump kind d)) rest
unfolding bytes_of first after_0f jump
jump_again Always d rest fits = distance_then d rest (λ z. Jump Always z) fits
jump_again IfZero d rest fits = distance_then d rest (λ z. Jump IfZero z) fits
jump_again IfNotZero d rest fits = distance_then d rest (λ z. Jump IfNotZero z) fits

pub again : (x : Form) (rest : List ℕ) → Fits x → form_at (bytes_of x ++ rest) ≡ Ok (x, rest)
unfolding bytes_of first after_0f after_0fae
again (Set r (sources.Number n)) rest h = set_number_again r n rest h
again (Set to (sources.Register from)) rest h = set_register_again to from rest
again (Compute operation r n) rest h = compute_again operation r n rest h
again (Jump kind d) rest h = jump_again kind d rest h
again Nop rest h = refl
again (Memory access m) rest h = access_again access m rest h
again (Fence Mfence) rest h = refl
again (Fence Sfence) rest h = refl
