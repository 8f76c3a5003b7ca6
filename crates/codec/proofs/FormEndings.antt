-- Wherever the bytes of a form can run out, more bytes make a form of them.
use Rattle.std.proofs.Common.{ℕ, ◌-◌, Bool, true, false, cond, eqb, ltb, List, [], ◌∷◌, ◌++◌, Option, Some, None, refl, lit<}
use Rattle.std.specs.Prelude.{◌&&◌, ◌==◌, not}
use Rattle.std.specs.Int.{Width, w32, w64, cast_signed}
use Rattle.isa.specs.declared.register.Reg.{Reg}
use Rattle.isa.specs.declared.register.Reg.TheVariants.{Rax, R8}
use Rattle.isa.specs.declared.instr.Access.{Access}
use Rattle.isa.specs.declared.instr.Access.TheVariants.{Load, Store, Locked, Flush}
use Rattle.isa.specs.declared.instr.Computation.{Computation}
use Rattle.isa.specs.declared.instr.Computation.TheVariants.{Add, Compare}
use Rattle.isa.specs.declared.instr.FenceKind.TheVariants.{Mfence}
use Rattle.isa.specs.declared.instr.FlushKind.{FlushKind}
use Rattle.isa.specs.declared.instr.FlushKind.TheVariants.{Clflush, Clflushopt, Clwb}
use Rattle.isa.specs.declared.instr.JumpKind.{JumpKind}
use Rattle.isa.specs.declared.instr.JumpKind.TheVariants.{Always, IfZero, IfNotZero}
use Rattle.isa.specs.declared.instr.LockedOperation.{LockedOperation}
use Rattle.isa.specs.declared.instr.LockedOperation.TheVariants.{Exchange, ExchangeAdd, CompareExchange}
use Rattle.isa.specs.declared.instr.Source.TheVariants as sources
use Rattle.isa.specs.Immediates.{sign_extended}
use Rattle.codec.specs.declared.form.Address.{Address}
use Rattle.codec.specs.declared.form.Address.TheVariants.{Absolute, Register}
use Rattle.codec.specs.declared.form.Form.{Form}
use Rattle.codec.specs.declared.form.Form.TheVariants.{Set, Compute, Jump, Nop, Memory, Fence}
use Rattle.codec.specs.Reading.{Reader, Done, Refuse, Byte, Number, reg_of, with_reg, mode, reg_field, rm_field, operand, register_and_memory, exchange, flush, jump, strong_flush, after_0fae, after_0f, after_41, weak_flush, after_66, locked, locked_behind, after_f0, move_from, compute, arithmetic, store_immediate, move_immediate, after_rex, first}
use Rattle.codec.proofs.Readers.{CanEnd, CanAlwaysEnd}

always_if : (q : Bool) (a b : Reader) → CanAlwaysEnd a → CanAlwaysEnd b → CanAlwaysEnd (cond q a b)
always_if true a b s t = s
always_if false a b s t = t

always_unless : (q : Bool) (a : Reader) → CanAlwaysEnd a → CanAlwaysEnd (cond q Refuse a)
always_unless q a s = always_if q Refuse a tt s

always_reg : (o : Option Reg) (next : Reg → Reader) → ((r : Reg) → CanAlwaysEnd (next r)) → CanAlwaysEnd (with_reg o next)
always_reg None next s = tt
always_reg (Some r) next s = s r

always_number : (w : Width) (make : ℕ → Form) → CanAlwaysEnd (Number w (λ n. Done (make n)))
always_number w make = λ n. (([], make n, refl, refl), tt)

zeros : List ℕ
zeros = 0 ∷ 0 ∷ 0 ∷ 0 ∷ []

-- a memory operand as the last thing that is read
always_address : (b : Bool) (m : ℕ) (make : Address → Form) → CanAlwaysEnd (operand b m (λ p. Done (make p)))
unfolding operand zeros
always_address b m make =
    always_if (mode m == 0) _ _ (always_if (not b && rm_field m == 4) _ _
    (lit< tt, (zeros, make (Absolute 0), refl, refl), λ a. (([], make (Absolute a), refl, refl), tt))
    (always_reg (reg_of b (rm_field m)) _ (λ r. tt))) tt

-- nodes with a register and a memory operand

always_both : (make : Reg → Access) (r b : Bool) (m : ℕ) → CanAlwaysEnd (register_and_memory make r b m)
unfolding register_and_memory
always_both make r b m = always_reg (reg_of r (reg_field m)) _ (λ reg. always_address b m (λ p. Memory (make reg) p))

ends_both : (make : Reg → Access) (r b : Bool) → CanEnd (Byte (register_and_memory make r b))
unfolding register_and_memory operand
ends_both make false false = (0 ∷ [], Memory (make Rax) (Register Rax), refl, refl)
ends_both make false true = (0 ∷ [], Memory (make Rax) (Register R8), refl, refl)
ends_both make true false = (0 ∷ [], Memory (make R8) (Register Rax), refl, refl)
ends_both make true true = (0 ∷ [], Memory (make R8) (Register R8), refl, refl)

always_exchange : (operation : LockedOperation) (r b : Bool) → CanAlwaysEnd (exchange operation r b)
always_exchange operation r b = (ends_both (λ reg. Locked operation reg) r b, always_both (λ reg. Locked operation reg) r b)

-- nodes behind 0F, 41, 66 and F0

always_flush : (kind : FlushKind) (b : Bool) (m : ℕ) → CanAlwaysEnd (flush kind b m)
unfolding flush
always_flush kind b m = always_address b m (λ p. Memory (Flush kind) p)

always_jump : (kind : JumpKind) → CanAlwaysEnd (jump kind)
unfolding jump
always_jump kind = always_number w32 (λ n. Jump kind (cast_signed w32 n))

always_strong_flush : (b : Bool) (m : ℕ) → CanAlwaysEnd (strong_flush b m)
unfolding strong_flush
always_strong_flush b m = always_if (eqb (reg_field m) 7) _ _ (always_flush Clflush b m) tt

always_after_0fae : (b : ℕ) → CanAlwaysEnd (after_0fae b)
unfolding after_0fae
always_after_0fae b = always_if (eqb b 0xF0) _ _ tt (always_if (eqb b 0xF8) _ _ tt (always_strong_flush false b))

always_after_0f : (b : ℕ) → CanAlwaysEnd (after_0f b)
unfolding after_0f after_0fae
always_after_0f b =
    always_if (eqb b 0xAE) _ _ ((0xF0 ∷ [], Fence Mfence, refl, refl), always_after_0fae)
    (always_if (eqb b 0x84) _ _ (always_jump IfZero)
    (always_if (eqb b 0x85) _ _ (always_jump IfNotZero) tt))

always_after_41 : CanAlwaysEnd after_41
unfolding after_41 strong_flush flush operand
always_after_41 = (
  lit< tt,
  (0xAE ∷ 0x38 ∷ [], Memory (Flush Clflush) (Register R8), refl, refl),
  (lit< tt, (0x38 ∷ [], Memory (Flush Clflush) (Register R8), refl, refl), ((0x38 ∷ [], Memory (Flush Clflush) (Register R8), refl, refl), always_strong_flush true)),
)

always_weak_flush : (b : Bool) (m : ℕ) → CanAlwaysEnd (weak_flush b m)
unfolding weak_flush
always_weak_flush b m =
    always_if (eqb (reg_field m) 7) _ _ (always_flush Clflushopt b m)
    (always_if (eqb (reg_field m) 6) _ _ (always_flush Clwb b m) tt)

ends_weak_flush : (b : Bool) → CanEnd (Byte (weak_flush b))
unfolding weak_flush flush operand
ends_weak_flush false = (0x38 ∷ [], Memory (Flush Clflushopt) (Register Rax), refl, refl)
ends_weak_flush true = (0x38 ∷ [], Memory (Flush Clflushopt) (Register R8), refl, refl)

always_after_66 : (c : ℕ) → CanAlwaysEnd (after_66 c)
unfolding after_66 weak_flush flush operand
always_after_66 c =
    always_if (eqb c 0x0F) _ _ (lit< tt, ends_weak_flush false, (ends_weak_flush false, always_weak_flush false))
    (always_if (eqb c 0x41) _ _ (
      lit< tt,
      (0xAE ∷ 0x38 ∷ [], Memory (Flush Clflushopt) (Register R8), refl, refl),
      (lit< tt, ends_weak_flush true, (ends_weak_flush true, always_weak_flush true)),
    ) tt)

ends_after_66 : CanEnd (Byte after_66)
unfolding after_66 weak_flush flush operand
ends_after_66 = (0x0F ∷ 0xAE ∷ 0x38 ∷ [], Memory (Flush Clflushopt) (Register Rax), refl, refl)

always_locked : (r b : Bool) (op : ℕ) → CanAlwaysEnd (locked r b op)
unfolding locked
always_locked r b op =
    always_if (eqb op 0xC1) _ _ (always_exchange ExchangeAdd r b)
    (always_if (eqb op 0xB1) _ _ (always_exchange CompareExchange r b) tt)

ends_locked : (r b : Bool) → CanEnd (Byte (locked r b))
unfolding locked register_and_memory operand
ends_locked false false = (0xC1 ∷ 0 ∷ [], Memory (Locked ExchangeAdd Rax) (Register Rax), refl, refl)
ends_locked false true = (0xC1 ∷ 0 ∷ [], Memory (Locked ExchangeAdd Rax) (Register R8), refl, refl)
ends_locked true false = (0xC1 ∷ 0 ∷ [], Memory (Locked ExchangeAdd R8) (Register Rax), refl, refl)
ends_locked true true = (0xC1 ∷ 0 ∷ [], Memory (Locked ExchangeAdd R8) (Register R8), refl, refl)

always_locked_behind : (r b : Bool) → CanAlwaysEnd (locked_behind r b)
unfolding locked_behind
always_locked_behind r b = (lit< tt, ends_locked r b, (ends_locked r b, always_locked r b))

always_after_f0 : (c : ℕ) → CanAlwaysEnd (after_f0 c)
unfolding after_f0
always_after_f0 c =
    always_if (eqb c 0x48) _ _ (always_locked_behind false false)
    (always_if (eqb c 0x49) _ _ (always_locked_behind false true)
    (always_if (eqb c 0x4C) _ _ (always_locked_behind true false)
    (always_if (eqb c 0x4D) _ _ (always_locked_behind true true) tt)))

ends_after_f0 : CanEnd (Byte after_f0)
unfolding after_f0 locked_behind locked register_and_memory operand
ends_after_f0 = (0x48 ∷ 0x0F ∷ 0xC1 ∷ 0 ∷ [], Memory (Locked ExchangeAdd Rax) (Register Rax), refl, refl)

-- nodes behind REX

always_move_from : (r b : Bool) (m : ℕ) → CanAlwaysEnd (move_from r b m)
unfolding move_from
always_move_from r b m =
    always_reg (reg_of r (reg_field m)) _ (λ from. always_if (eqb (mode m) 3) _ _
    (always_reg (reg_of b (rm_field m)) _ (λ to. tt))
    (always_address b m (λ p. Memory (Store (sources.Register from)) p)))

ends_move_from : (r b : Bool) → CanEnd (Byte (move_from r b))
unfolding move_from
ends_move_from false false = (0xC0 ∷ [], Set Rax (sources.Register Rax), refl, refl)
ends_move_from false true = (0xC0 ∷ [], Set R8 (sources.Register Rax), refl, refl)
ends_move_from true false = (0xC0 ∷ [], Set Rax (sources.Register R8), refl, refl)
ends_move_from true true = (0xC0 ∷ [], Set R8 (sources.Register R8), refl, refl)

always_compute : (operation : Computation) (b : Bool) (m : ℕ) → CanAlwaysEnd (compute operation b m)
unfolding compute
always_compute operation b m = always_reg (reg_of b (rm_field m)) _ (λ to. always_number w32 (λ n. Compute operation to (sign_extended n)))

always_arithmetic : (b : Bool) (m : ℕ) → CanAlwaysEnd (arithmetic b m)
unfolding arithmetic
always_arithmetic b m =
    always_unless (ltb (mode m) 3) _ (always_if (eqb (reg_field m) 0) _ _ (always_compute Add b m)
    (always_if (eqb (reg_field m) 7) _ _ (always_compute Compare b m) tt))

ends_arithmetic : (b : Bool) → CanEnd (Byte (arithmetic b))
unfolding arithmetic compute zeros
ends_arithmetic false = (0xC0 ∷ zeros, Compute Add Rax 0, refl, refl)
ends_arithmetic true = (0xC0 ∷ zeros, Compute Add R8 0, refl, refl)

always_store_immediate : (b : Bool) (m : ℕ) → CanAlwaysEnd (store_immediate b m)
unfolding store_immediate operand zeros
always_store_immediate b m =
    always_if (eqb (reg_field m) 0) _ _ (always_if (mode m == 0) _ _ (always_if (not b && rm_field m == 4) _ _ (
      lit< tt,
      (zeros ++ zeros, Memory (Store (sources.Number 0)) (Absolute 0), refl, refl),
      λ a. ((zeros, Memory (Store (sources.Number 0)) (Absolute a), refl, refl), always_number w32 (λ n. Memory (Store (sources.Number (sign_extended n))) (Absolute a))),
    ) (always_reg (reg_of b (rm_field m)) _ (λ r. always_number w32 (λ n. Memory (Store (sources.Number (sign_extended n))) (Register r))))) tt) tt

ends_store_immediate : (b : Bool) → CanEnd (Byte (store_immediate b))
unfolding store_immediate operand zeros
ends_store_immediate false = (0 ∷ zeros, Memory (Store (sources.Number 0)) (Register Rax), refl, refl)
ends_store_immediate true = (0 ∷ zeros, Memory (Store (sources.Number 0)) (Register R8), refl, refl)

always_move_immediate : (b : Bool) (op : ℕ) → CanAlwaysEnd (move_immediate b op)
unfolding move_immediate
always_move_immediate b op = always_reg (reg_of b (op - 0xB8)) _ (λ to. always_number w64 (λ n. Set to (sources.Number n)))

always_after_rex : (r b : Bool) (op : ℕ) → CanAlwaysEnd (after_rex r b op)
unfolding after_rex
always_after_rex r b op =
    always_if (eqb op 0x89) _ _ (ends_move_from r b, always_move_from r b)
    (always_if (eqb op 0x8B) _ _ (ends_both (λ reg. Load reg) r b, always_both (λ reg. Load reg) r b)
    (always_if (eqb op 0x87) _ _ (always_exchange Exchange r b)
    (always_if (eqb op 0x81) _ _ (always_unless r _ (ends_arithmetic b, always_arithmetic b))
    (always_if (eqb op 0xC7) _ _ (always_unless r _ (ends_store_immediate b, always_store_immediate b))
    (always_unless (ltb op 0xB8) _ (always_if (ltb op 0xC0) _ _ (always_unless r _ (always_move_immediate b op)) tt))))))

ends_after_rex : (r b : Bool) → CanEnd (Byte (after_rex r b))
unfolding after_rex move_from
ends_after_rex false false = (0x89 ∷ 0xC0 ∷ [], Set Rax (sources.Register Rax), refl, refl)
ends_after_rex false true = (0x89 ∷ 0xC0 ∷ [], Set R8 (sources.Register Rax), refl, refl)
ends_after_rex true false = (0x89 ∷ 0xC0 ∷ [], Set Rax (sources.Register R8), refl, refl)
ends_after_rex true true = (0x89 ∷ 0xC0 ∷ [], Set R8 (sources.Register R8), refl, refl)

pub always_ends : CanAlwaysEnd (Byte first)
unfolding first after_0f after_0fae
always_ends = (
  (0x90 ∷ [], Nop, refl, refl),
  λ b.
      always_if (eqb b 0x90) _ _ tt
      (always_if (eqb b 0xE9) _ _ (always_jump Always)
      (always_if (eqb b 0x0F) _ _ ((0xAE ∷ 0xF0 ∷ [], Fence Mfence, refl, refl), always_after_0f)
      (always_if (eqb b 0x41) _ _ always_after_41
      (always_if (eqb b 0x66) _ _ (ends_after_66, always_after_66)
      (always_if (eqb b 0xF0) _ _ (ends_after_f0, always_after_f0)
      (always_if (eqb b 0x48) _ _ (ends_after_rex false false, always_after_rex false false)
      (always_if (eqb b 0x49) _ _ (ends_after_rex false true, always_after_rex false true)
      (always_if (eqb b 0x4C) _ _ (ends_after_rex true false, always_after_rex true false)
      (always_if (eqb b 0x4D) _ _ (ends_after_rex true true, always_after_rex true true) tt))))))))),
)
