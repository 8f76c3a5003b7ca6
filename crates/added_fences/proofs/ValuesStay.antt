-- A leaner state has the same values: so conditions are true of it alike.
use Rattle.std.proofs.Common.{◌≡◌, ℕ, Option, Some, None, List, ap, refl, ◌∙◌, option_map}
use Rattle.std.specs.Prelude.{if◌then◌else◌, slice_get, slice_index}
use Rattle.lines_layout.specs.Lines.{has_word}
use Rattle.isa.specs.declared.register.Reg.{Reg}
use Rattle.isa.specs.Registers.{reg}
use Rattle.machine.specs.State.{Processor, State}
use Rattle.conditions.specs.declared.cond.Operand.{Operand}
use Rattle.conditions.specs.declared.cond.Operand.TheVariants.{Persisted, Coherent, Register}
use Rattle.conditions.specs.Formulas.{Formula}
use Rattle.conditions.specs.Truth.{holds_by}
use Rattle.images.specs.Images.{value_of}
use Rattle.images.specs.Truth.{holds_in, holds_on, value_in, value_on}
use Rattle.fewer_fences.specs.Thinner.{AreByPlace}
use Rattle.fewer_fences.proofs.ThinnedLists.{none_there, other_there}
use Rattle.fewer_fences.proofs.ThinnerMemories.{same_coherent}
use Rattle.added_fences.specs.Added.{IsLeaner, IsLeanerProcessor}

-- the register of a processor, if it is there
register_same : (over : List ℕ) (xs ys : List Processor) (p : ℕ) (r : Reg) (o : Option Processor) → slice_get xs p ≡ o → AreByPlace (IsLeanerProcessor over) xs ys
    → option_map (λ (c : Processor). reg c.regs r) (slice_get ys p) ≡ option_map (λ (c : Processor). reg c.regs r) o
register_same over xs ys p r None is h = ap (option_map (λ (c : Processor). reg c.regs r)) (none_there xs ys p h.count is)
register_same over xs ys p r (Some c) is h =
    let there = other_there xs ys p c h.count is in
    ap (option_map (λ (d : Processor). reg d.regs r)) there.1 ∙ ap (λ regs. Some (reg regs r)) (h.each p c there.0 is there.1).regs

module _ (more less : State) (h : IsLeaner more less) where
  in_state : (operand : Operand) → value_in less operand ≡ value_in more operand
  in_state (Persisted word) = λ i. if has_word (h.shape i) word then Some (slice_index (h.memory.persisted i) word) else None
  in_state (Coherent word) = λ i. if has_word (h.shape i) word then Some (same_coherent more.memory less.memory word h.memory i) else None
  in_state (Register p r) = register_same more.shape more.processors less.processors p r (slice_get more.processors p) refl h.processors

  on_image : (image : List ℕ) (operand : Operand) → value_on less image operand ≡ value_on more image operand
  on_image image (Persisted word) = λ i. value_of (h.shape i) image word
  on_image image (Coherent word) = in_state (Coherent word)
  on_image image (Register p r) = in_state (Register p r)

  pub holds_in_same : (f : Formula) → holds_in less f ≡ holds_in more f
  holds_in_same f = λ i. holds_by (λ operand. in_state operand i) f

  pub holds_on_same : (image : List ℕ) (f : Formula) → holds_on less f image ≡ holds_on more f image
  holds_on_same image f = λ i. holds_by (λ operand. on_image image operand i) f
