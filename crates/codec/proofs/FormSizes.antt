-- How many bytes a form has.
use Rattle.std.proofs.Common.{◌≡◌, ℕ, ◌<◌, ◌≤◌, Bool, true, false, cond, List, [], ◌∷◌, ◌++◌, length, refl, arith, ltb}
use Rattle.std.proofs.lemmas.List.{length-append}
use Rattle.isa.specs.declared.instr.Access.{Access}
use Rattle.isa.specs.declared.instr.Access.TheVariants.{Load, Store, Locked, Flush}
use Rattle.isa.specs.declared.instr.Computation.TheVariants.{Add, Compare}
use Rattle.isa.specs.declared.instr.FenceKind.TheVariants.{Mfence, Sfence}
use Rattle.isa.specs.declared.instr.FlushKind.TheVariants.{Clflush, Clflushopt, Clwb}
use Rattle.isa.specs.declared.instr.JumpKind.TheVariants.{Always, IfZero, IfNotZero}
use Rattle.isa.specs.declared.instr.LockedOperation.TheVariants.{Exchange, ExchangeAdd, CompareExchange}
use Rattle.isa.specs.declared.instr.Source.TheVariants as sources
use Rattle.codec.specs.declared.form.Address.{Address}
use Rattle.codec.specs.declared.form.Address.TheVariants.{Absolute, Register}
use Rattle.codec.specs.declared.form.Form.{Form}
use Rattle.codec.specs.declared.form.Form.TheVariants.{Set, Compute, Jump, Nop, Memory, Fence}
use Rattle.codec.specs.Forms.{base, number, rex, short_rex, memory, immediate, distance, bytes_of}

abbrev pub form_size : Form → ℕ
form_size x = length (bytes_of x)

-- at least one, and at most 12
pub record IsSize (n : ℕ) : Type 0 where
  pub some : 0 < n
  pub few : n ≤ 12

is_size : (n k : ℕ) → n ≡ k → 0 < k → k ≤ 12 → IsSize n
is_size n k e low high = record { some = omega arith; few = omega arith }

memory_few : (reg : ℕ) (m : Address) → length (memory reg m) ≤ 6
unfolding memory
memory_few reg (Absolute address) = omega arith
memory_few reg (Register r) = omega arith

rex_few : (q : Bool) → length {A = ℕ} (cond q [] (0x41 ∷ [])) ≤ 1
rex_few true = omega arith
rex_few false = omega arith

short_rex_few : (m : Address) → length (short_rex m) ≤ 1
short_rex_few m = rex_few (ltb (base m) 8)

-- these bytes and a memory operand
with_memory : (front : List ℕ) (reg : ℕ) (m : Address) → 0 < length front → length front ≤ 6 → IsSize (length (front ++ memory reg m))
with_memory front reg m low high = record {
  some = omega (arith, length-append front (memory reg m));
  few = omega (arith, memory_few reg m, length-append front (memory reg m));
}

-- the same with an immediate behind it
with_immediate : (front : List ℕ) (m : Address) (n : ℕ) → 0 < length front → length front ≤ 2 → IsSize (length (front ++ (memory 0 m ++ immediate n)))
unfolding immediate
with_immediate front m n low high = record {
  some = omega (arith, length-append front (memory 0 m ++ immediate n));
  few = omega (arith, memory_few 0 m, length-append front (memory 0 m ++ immediate n), length-append (memory 0 m) (immediate n));
}

-- the same behind a short REX
behind_rex : (front : List ℕ) (reg : ℕ) (m : Address) → length front ≤ 1 → IsSize (length (front ++ (short_rex m ++ (0x0F ∷ 0xAE ∷ memory reg m))))
behind_rex front reg m low =
    let whole = length-append front (short_rex m ++ (0x0F ∷ 0xAE ∷ memory reg m)) in
    let behind = length-append (short_rex m) (0x0F ∷ 0xAE ∷ memory reg m) in
    record { some = omega (arith, whole, behind); few = omega (arith, memory_few reg m, short_rex_few m, whole, behind) }

access_sizes : (access : Access) (m : Address) → IsSize (form_size (Memory access m))
unfolding bytes_of
access_sizes (Load r) m = with_memory (rex (number r) (base m) ∷ 0x8B ∷ []) (number r) m (omega arith) (omega arith)
access_sizes (Store (sources.Register r)) m = with_memory (rex (number r) (base m) ∷ 0x89 ∷ []) (number r) m (omega arith) (omega arith)
access_sizes (Store (sources.Number n)) m = with_immediate (rex 0 (base m) ∷ 0xC7 ∷ []) m n (omega arith) (omega arith)
access_sizes (Locked Exchange r) m = with_memory (rex (number r) (base m) ∷ 0x87 ∷ []) (number r) m (omega arith) (omega arith)
access_sizes (Locked ExchangeAdd r) m = with_memory (0xF0 ∷ rex (number r) (base m) ∷ 0x0F ∷ 0xC1 ∷ []) (number r) m (omega arith) (omega arith)
access_sizes (Locked CompareExchange r) m = with_memory (0xF0 ∷ rex (number r) (base m) ∷ 0x0F ∷ 0xB1 ∷ []) (number r) m (omega arith) (omega arith)
access_sizes (Flush Clflush) m = behind_rex [] 7 m (omega arith)
access_sizes (Flush Clflushopt) m = behind_rex (0x66 ∷ []) 7 m (omega arith)
access_sizes (Flush Clwb) m = behind_rex (0x66 ∷ []) 6 m (omega arith)

pub sizes : (x : Form) → IsSize (form_size x)
unfolding bytes_of immediate distance
sizes (Set r (sources.Number n)) = is_size _ 10 refl (omega arith) (omega arith)
sizes (Set to (sources.Register from)) = is_size _ 3 refl (omega arith) (omega arith)
sizes (Compute Add r n) = is_size _ 7 refl (omega arith) (omega arith)
sizes (Compute Compare r n) = is_size _ 7 refl (omega arith) (omega arith)
sizes (Memory access m) = access_sizes access m
sizes (Fence Mfence) = is_size _ 3 refl (omega arith) (omega arith)
sizes (Fence Sfence) = is_size _ 3 refl (omega arith) (omega arith)
sizes (Jump Always d) = is_size _ 5 refl (omega arith) (omega arith)
sizes (Jump IfZero d) = is_size _ 6 refl (omega arith) (omega arith)
sizes (Jump IfNotZero d) = is_size _ 6 refl (omega arith) (omega arith)
sizes Nop = is_size _ 1 refl (omega arith) (omega arith)
