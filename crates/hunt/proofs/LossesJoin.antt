-- Losses of numbers that follow one another, put together, and the losses of a range.
use Rattle.std.proofs.Common.{◌≡◌, ℕ, zero, suc, ◌+◌, ◌≤◌, Bool, true, false, true≢false, cond, Option, None, Some, List, [], ◌∷◌, ◌++◌, refl, sym, ap, ap₂, ◌∙◌, arith}
use Rattle.std.specs.Prelude.{map, fold, count_by, is_some, option_map, option_and_then, if◌then◌else◌}
use Rattle.std.specs.List.{range_with_len}
use Rattle.std.specs.Option.{option_or}
use Rattle.std.proofs.lemmas.List.Sums.{sum_by_push}
use Rattle.machine.specs.State.{State}
use Rattle.schedule.specs.declared.plan.Plan.{Plan}
use Rattle.conditions.specs.Formulas.{Formula}
use Rattle.schedule.specs.Ranges.{max_schedules}
use Rattle.hunt.specs.declared.loss.Loss.{Loss}
use Rattle.hunt.specs.declared.loss.Moment.{Moment}
use Rattle.hunt.specs.declared.losses.Losses.{Losses}
use Rattle.hunt.specs.Crashes.{loses, loss_of, losses_among}
use Rattle.hunt.specs.Least.{least, or_last}
use Rattle.hunt.specs.LossSums.{both, losses_from, no_losses, one_loss}
use Rattle.hunt.proofs.LeastLosses.{loss_there}
use Rattle.hunt.proofs.LeastNumbersAreFirst.{some_is_least}

-- ---- some losses and others ----

abbrev made : ℕ → Option Moment → Losses
made n first = record { broken = n; first = first }

or_none : (o : Option Moment) → o ≡ option_or o None
or_none None = refl
or_none (Some at) = refl

or_group : (o p q : Option Moment) → option_or (option_or o p) q ≡ option_or o (option_or p q)
or_group None p q = refl
or_group (Some at) p q = refl

both_group : (x y z : Losses) → both (both x y) z ≡ both x (both y z)
both_group x y z = ap₂ made (omega arith) (or_group x.first y.first z.first)

both_none : (x : Losses) → x ≡ both x no_losses
both_none x = ap₂ made (omega arith) (or_none x.first)

none_both : (x : Losses) → both no_losses x ≡ x
none_both x = ap (λ n. made n x.first) (omega arith)

-- losses behind others
pub fold_both : (x : Losses) (ys : List Losses) → fold both x ys ≡ both x (fold both no_losses ys)
fold_both x [] = both_none x
fold_both x (y ∷ ys) =
    fold_both (both x y) ys ∙ both_group x y (fold both no_losses ys)
    ∙ ap (both x) (ap (λ (z : Losses). both z (fold both no_losses ys)) (sym (none_both y)) ∙ sym (fold_both (both no_losses y) ys))

pub one_few : (o : Option Loss) → (one_loss o).broken ≤ 1
one_few None = omega arith
one_few (Some loss) = omega arith

module _ (plan : Plan) (condition : Formula) (start : State) where
  abbrev one : ℕ → Losses
  one number = one_loss (loss_of plan condition start number)

  abbrev from : ℕ → ℕ → Losses
  from first count = losses_from plan condition start first count

  pub losses_join : (a p q : ℕ) → from a (p + q) ≡ both (from a p) (from (a + p) q)
  losses_join a zero q =
      let e : 0 + q ≡ q = omega arith in let g : a ≡ a + 0 = omega arith in
      ap (from a) e ∙ ap (λ n. from n q) g ∙ sym (none_both (from (a + 0) q))
  losses_join a (suc p) q =
      let e : suc p + q ≡ suc (p + q) = omega arith in let g : (a + 1) + p ≡ a + suc p = omega arith in
      let here : Losses = both no_losses (one a) in
      ap (from a) e ∙ fold_both here (map one (range_with_len (a + 1) (p + q)))
      ∙ ap (both here) (losses_join (a + 1) p q ∙ ap (λ n. both (from (a + 1) p) (from n q)) g)
      ∙ sym (both_group here (from (a + 1) p) (from (a + suc p) q))
      ∙ ap (λ (x : Losses). both x (from (a + suc p) q)) (sym (fold_both here (map one (range_with_len (a + 1) p))))

  -- one number more
  pub losses_more : (a n : ℕ) → both (from a n) (one (a + n)) ≡ from a (n + 1)
  losses_more a n = sym (losses_join a n 1 ∙ ap (both (from a n)) (none_both (one (a + n))))

  -- at most as many as numbers
  pub losses_few : (a n : ℕ) → (from a n).broken ≤ n
  losses_few a zero = omega arith
  losses_few a (suc n) =
      let split = ap (λ (x : Losses). x.broken) (fold_both (both no_losses (one a)) (map one (range_with_len (a + 1) n))) in
      let rest = losses_few (a + 1) n in let here = one_few (loss_of plan condition start a) in
      omega (arith, split, rest, here)

  -- those of so many schedules, and then those of the schedules after them
  pub sum_fits : (first done more : ℕ) (some later : Losses) → some ≡ from first done → later ≡ from (first + done) more
      → first + (done + more) ≤ max_schedules → some.broken + later.broken ≤ max_schedules
  sum_fits first done more some later was is low =
      let one = ap (λ (x : Losses). x.broken) was in let other = ap (λ (x : Losses). x.broken) is in
      let few = losses_few first done in let fewer = losses_few (first + done) more in
      omega (arith, one, other, few, fewer, low)

  -- ---- the losses of a range ----

  abbrev at_of : Option Loss → Option Moment
  at_of o = option_map (λ (loss : Loss). loss.at) o

  first_is : (o : Option Loss) → (one_loss o).first ≡ at_of o
  first_is None = refl
  first_is (Some loss) = refl

  counted_is : (o : Option Loss) → (one_loss o).broken ≡ cond (is_some o) 1 0
  counted_is None = refl
  counted_is (Some loss) = refl

  none_is : (o : Option Loss) → is_some o ≡ false → o ≡ None
  none_is None e = refl
  none_is (Some loss) e = absurd (true≢false e)

  some_first : (o : Option Loss) (p : Option Moment) → is_some o ≡ true → option_or (at_of o) p ≡ at_of o
  some_first None p e = absurd (true≢false (sym e))
  some_first (Some loss) p e = refl

  numbers_more : (a n : ℕ) → range_with_len a (suc n) ≡ range_with_len a n ++ (a + n) ∷ []
  numbers_more a zero = ap (λ m. m ∷ []) (omega arith)
  numbers_more a (suc n) =
      let e : (a + 1) + n ≡ a + suc n = omega arith in
      ap (λ (xs : List ℕ). a ∷ xs) (numbers_more (a + 1) n ∙ ap (λ m. range_with_len (a + 1) n ++ m ∷ []) e)

  module _ (first : ℕ) where
    count_more : (n : ℕ) → count_by (loses plan condition start) (range_with_len first n) + (one (first + n)).broken ≡ count_by (loses plan condition start) (range_with_len first (suc n))
    count_more n =
        let here : (one (first + n)).broken ≡ cond (loses plan condition start (first + n)) 1 0 =
        counted_is (loss_of plan condition start (first + n)) ∙ ap (λ b. cond b 1 0) (loss_there plan condition start (first + n)) in
        ap (λ m. count_by (loses plan condition start) (range_with_len first n) + m) here
        ∙ sym (sum_by_push (λ k. cond (loses plan condition start k) 1 0) (range_with_len first n) (first + n))
        ∙ ap (count_by (loses plan condition start)) (sym (numbers_more first n))

    -- whether the schedule so far behind the first breaks the condition
    abbrev loses_behind : ℕ → Bool
    loses_behind k = loses plan condition start (first + k)

    -- the first moment of what a hunt found
    abbrev told : Option ℕ → Option Moment
    told o = at_of (option_and_then (loss_of plan condition start) (option_map (λ k. first + k) o))

    first_more : (n : ℕ) (o : Option ℕ) (b : Bool) → least loses_behind n ≡ o → loses_behind n ≡ b → option_or (told o) (one (first + n)).first ≡ told (or_last loses_behind n o)
    first_more n (Some k) b found is =
        let passes = ((some_is_least loses_behind n k).0 found).passes in
        some_first (loss_of plan condition start (first + k)) (one (first + n)).first (loss_there plan condition start (first + k) ∙ passes)
    first_more n None true found is = first_is (loss_of plan condition start (first + n)) ∙ ap (λ b. told (if b then Some n else None)) (sym is)
    first_more n None false found is =
        first_is (loss_of plan condition start (first + n))
        ∙ ap at_of (none_is (loss_of plan condition start (first + n)) (loss_there plan condition start (first + n) ∙ is))
        ∙ ap (λ b. told (if b then Some n else None)) (sym is)

    pub all_losses : (n : ℕ) → from first n ≡ losses_among plan condition start first n
    all_losses zero = refl
    all_losses (suc n) =
        let e : suc n ≡ n + 1 = omega arith in
        ap (from first) e ∙ sym (losses_more first n)
        ∙ ap (λ (x : Losses). both x (one (first + n))) (all_losses n)
        ∙ ap₂ made (count_more n) (first_more n (least loses_behind n) (loses_behind n) refl refl)

  -- of two ranges, of which the second begins where the first ends
  pub losses_of_both : (first a b : ℕ) → losses_among plan condition start first (a + b) ≡ both (losses_among plan condition start first a) (losses_among plan condition start (first + a) b)
  losses_of_both first a b = sym (all_losses first (a + b)) ∙ losses_join first a b ∙ ap₂ both (all_losses first a) (all_losses (first + a) b)
