-- An instruction leads to a place of its program, or to its end.
use Rattle.std.proofs.Common.{◌≡◌, ℕ, ◌<◌, ◌≤◌, arith, Bool, true, false, Option, Some, ap, subst}
use Rattle.std.specs.Prelude.{nat_le, not, if◌then◌else◌}
use Rattle.std.proofs.lemmas.Bool.Decides.{nat_tests}
use Rattle.isa.specs.declared.instr.Instr.{Instr}
use Rattle.isa.specs.declared.instr.Instr.TheVariants.{Set, Compute, Jump, Nop, Memory, Fence}
use Rattle.isa.specs.declared.instr.JumpKind.TheVariants.{Always, IfZero, IfNotZero}
use Rattle.isa.specs.declared.instr.Next.{Next}
use Rattle.isa.specs.declared.instr.Next.TheVariants.{Following, Target}
use Rattle.isa.specs.declared.register.Regs.{Regs}
use Rattle.isa.specs.Effects.{local_of}
use Rattle.isa.specs.Programs.{leads_within}
use Rattle.processor.specs.Cpus.{next_place}

next_of : (a b : Next) (x y : Regs) → ◌≡◌ {A = Option (Next × Regs)} (Some (a, x)) (Some (b, y)) → a ≡ b
next_of a b x y e =
    let pair : ◌≡◌ {A = Next × Regs} (a, x) (b, y) = cc in
    ap (λ (p : Next × Regs). p.0) pair

target_within : (target len : ℕ) → nat_le target len ≡ true → target ≤ len
target_within target len e = grind (arith, nat_tests)

module _ (place len : ℕ) (next : Next) (after : Regs) (there : place < len) where
  follows : Following ≡ next → next_place place next ≤ len
  follows e = subst (λ (n : Next). next_place place n ≤ len) e (omega arith)

  goes : (target : ℕ) → nat_le target len ≡ true → Target target ≡ next → next_place place next ≤ len
  goes target h e = subst (λ (n : Next). next_place place n ≤ len) e (target_within target len h)

  chooses : (target : ℕ) (zero : Bool) → nat_le target len ≡ true → (if zero then Target target else Following) ≡ next → next_place place next ≤ len
  chooses target true h e = goes target h e
  chooses target false h e = follows e

  pub local_within : (instr : Instr) (regs : Regs) → leads_within len instr ≡ true → local_of instr regs ≡ Some (next, after) → next_place place next ≤ len
  local_within (Set r source) regs h e = follows (next_of _ _ _ _ e)
  local_within (Compute operation r number) regs h e = follows (next_of _ _ _ _ e)
  local_within (Jump Always target) regs h e = goes target h (next_of _ _ _ _ e)
  local_within (Jump IfZero target) regs h e = chooses target regs.zero h (next_of _ _ _ _ e)
  local_within (Jump IfNotZero target) regs h e = chooses target (not regs.zero) h (next_of _ _ _ _ e)
  local_within Nop regs h e = follows (next_of _ _ _ _ e)
  local_within (Memory access operand) regs h e = absurd (cc)
  local_within (Fence kind) regs h e = absurd (cc)
