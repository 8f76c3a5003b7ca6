-- An image has the values that were reached.
use Rattle.std.proofs.Common.{◌≡◌, ℕ, Some, None, List, refl, ap}
use Rattle.std.specs.Prelude.{if◌then◌else◌}
use Rattle.lines_layout.specs.Lines.{has_word}
use Rattle.machine.specs.State.{State}
use Rattle.pending_images.specs.Changes.{IsReached}
use Rattle.pending_images.proofs.WordsInImages.{value_read}
use Rattle.images.specs.Images.{image_at}
use Rattle.conditions.specs.declared.cond.Operand.{Operand}
use Rattle.conditions.specs.declared.cond.Operand.TheVariants.{Persisted, Coherent, Register}
use Rattle.conditions.specs.Formulas.{Formula}
use Rattle.conditions.proofs.SameValues.{same_truth}
use Rattle.images.specs.Truth.{holds_in, holds_on, value_in, value_on, with_persisted}
use Rattle.images.proofs.CoherentValuesStay.{coherent_stays}

same_values : (s : State) (persisted : List ℕ) → IsReached s.memory persisted → (operand : Operand) → value_on s (image_at s.shape persisted) operand ≡ value_in (with_persisted s persisted) operand
same_values s persisted reached (Persisted word) = value_read s.shape persisted word
same_values s persisted reached (Coherent word) = ap (λ (value : ℕ). if has_word s.shape word then Some value else None) (coherent_stays s.memory persisted word reached)
same_values s persisted reached (Register p r) = refl

pub images_keep : (s : State) (persisted : List ℕ) (f : Formula) → IsReached s.memory persisted → holds_on s f (image_at s.shape persisted) ≡ holds_in (with_persisted s persisted) f
images_keep s persisted f reached = same_truth (value_on s (image_at s.shape persisted)) (value_in (with_persisted s persisted)) (same_values s persisted reached) f
