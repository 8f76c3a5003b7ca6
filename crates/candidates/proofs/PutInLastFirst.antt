-- One instruction more is put in.
use Rattle.std.proofs.Common.{◌≡◌, ℕ, zero, suc, ◌+◌, ◌≤◌, Option, Some, None, List, [], ◌∷◌, length, drop, get_or, ap, sym, ◌∙◌, add-one, arith}
use Rattle.std.proofs.Math.Seq.{drop-cons}
use Rattle.isa.specs.Objects.{Object}
use Rattle.image_reasons.specs.declared.repair.Repair.{Repair}
use Rattle.image_reasons.specs.Repairs.{repaired}
use Rattle.std.specs.Option.{option_and_then}
use Rattle.candidates.specs.Sets.{with_all}

module _ (set : List Repair) (object changed : Object) (left at : ℕ) (repair : Repair) (is_left : left ≡ at + 1) (within : left ≤ length set)
    (before : with_all (drop left set) object ≡ Some changed) (read : repair ≡ get_or set at repair) where
  pub one_more : with_all (drop at set) object ≡ repaired changed repair
  one_more =
      ap (λ (these : List Repair). with_all these object)
      (drop-cons set at repair (omega (arith, is_left, within)) ∙ ap (λ (n : ℕ). get_or set at repair ∷ drop n set) (sym (add-one at) ∙ sym is_left)
      ∙ ap (λ (r : Repair). r ∷ drop left set) (sym read))
      ∙ ap (λ (o : Option Object). option_and_then (λ c. repaired c repair) o) before

  pub all_put_in : (more : Object) → repaired changed repair ≡ Some more → with_all (drop at set) object ≡ Some more
  all_put_in more is = one_more ∙ is

none_stays : (set : List Repair) (object : Object) (at : ℕ) → with_all (drop at set) object ≡ None → with_all set object ≡ None
none_stays set object zero is = is
none_stays [] object (suc at) is = is
none_stays (repair ∷ others) object (suc at) is = ap (λ (o : Option Object). option_and_then (λ c. repaired c repair) o) (none_stays others object at is)

module _ (set : List Repair) (object changed : Object) (left at : ℕ) (repair : Repair) (is_left : left ≡ at + 1) (within : left ≤ length set)
    (before : with_all (drop left set) object ≡ Some changed) (read : repair ≡ get_or set at repair) where
  pub none_then : repaired changed repair ≡ None → None ≡ with_all set object
  none_then is = sym (none_stays set object at (one_more set object changed left at repair is_left within before read ∙ is))

pub all_done : (set : List Repair) (object changed : Object) (left : ℕ) → left ≤ 0 → with_all (drop left set) object ≡ Some changed → Some changed ≡ with_all set object
all_done set object changed zero none before = sym before
all_done set object changed (suc left) none before = absurd (omega (arith, none))
