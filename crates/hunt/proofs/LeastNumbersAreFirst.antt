-- The smallest number at which a test is true.
use Rattle.std.proofs.Common.{◌≡◌, ℕ, zero, suc, ◌+◌, ◌-◌, ◌<◌, ◌≤◌, ◌↔◌, Bool, true, false, true≢false, Option, Some, None, sym, refl, ap, ◌∙◌, subst, arith, if◌then◌else◌}
use native.Mathlib.Decide.{dec_le, ℕ_discrete}
use Rattle.std.specs.Option.{option_or}
use Rattle.std.specs.Prelude.{length, not, option_map}
use Rattle.machine.specs.State.{State}
use Rattle.machine.specs.Steps.{End, run_of}
use Rattle.conditions.specs.Formulas.{Formula}
use Rattle.images.specs.Truth.{holds_in}
use Rattle.schedule.specs.declared.plan.Plan.{Plan}
use Rattle.schedule.specs.Schedules.{schedule_of}
use Rattle.schedule.proofs.OneTurn.{run_turns}
use Rattle.hunt.specs.Least.{IsLeast, IsLeastFrom, fails, least, least_from, or_last}

pub least-none : (test : ℕ → Bool) (n : ℕ) → ((x : ℕ) → x < n → test x ≡ false) → least test n ≡ None
least-none test zero h = refl
least-none test (suc n) h = rw (least-none test n (λ x l. h x (omega arith)), h n (omega arith)) refl

pub least-some : (test : ℕ → Bool) (n k : ℕ) → k < n → test k ≡ true → ((x : ℕ) → x < k → test x ≡ false) → least test n ≡ Some k
least-some test zero k l is below = absurd (omega arith)
least-some test (suc n) k l is below = elim (ℕ_discrete k n) [
  | yes e ↦ let none : least test n ≡ None = least-none test n (λ x m. below x (omega arith)) in let here : test n ≡ true = ap test (sym e) ∙ is in rw (none, here) (ap (λ (z : ℕ). Some z) (sym e))
  | no ne ↦ rw (least-some test n k (omega arith) is below) refl
]

-- what a search found: no number, or the first
abbrev Found : (ℕ → Bool) → ℕ → Option ℕ → Type 0
Found test n None = (x : ℕ) → x < n → test x ≡ false
Found test n (Some k) = IsLeast test n k

found_next : (test : ℕ → Bool) (n : ℕ) (o : Option ℕ) (b : Bool) → test n ≡ b → Found test n o → Found test (suc n) (or_last test n o)
found_next test n (Some k) b is f = record { below = let a = f.below in omega arith; passes = f.passes; first = f.first }
found_next test n None true is f = subst (λ b. Found test (suc n) (if b then Some n else None)) (sym is) record { below = omega arith; passes = is; first = f }
found_next test n None false is f = subst (λ b. Found test (suc n) (if b then Some n else None)) (sym is) (λ x l. elim (ℕ_discrete x n) [ yes e ↦ ap test e ∙ is | no ne ↦ f x (omega arith) ])

found : (test : ℕ → Bool) (n : ℕ) → Found test n (least test n)
found test zero = λ x l. absurd (omega arith)
found test (suc n) = found_next test n (least test n) (test n) refl (found test n)

-- the two laws of `least`
pub some_is_least : (test : ℕ → Bool) (n k : ℕ) → (least test n ≡ Some k) ↔ IsLeast test n k
some_is_least test n k = ((λ e. subst (Found test n) e (found test n)), (λ f. least-some test n k f.below f.passes f.first))

pub none_passes : (test : ℕ → Bool) (n : ℕ) → (least test n ≡ None) ↔ ((x : ℕ) → x < n → test x ≡ false)
none_passes test n = ((λ e. subst (Found test n) e (found test n)), least-none test n)

-- ---- ranges ----

module _ (test : ℕ → Bool) (first : ℕ) where
  -- the same of a test, told of the numbers of the range
  shifted : (n k : ℕ) → IsLeast (λ j. test (first + j)) n k → IsLeastFrom test first n (first + k)
  shifted n k is =
      let low = is.below in
      record {
        from = omega arith;
        below = omega (arith, low);
        passes = is.passes;
        before = λ j from below. let e : first + (j - first) ≡ j = omega (arith, from) in sym (ap test e) ∙ is.first (j - first) (omega (arith, from, below));
      }

  some_from : (n k : ℕ) (o : Option ℕ) → least (λ j. test (first + j)) n ≡ o → option_map (λ j. first + j) o ≡ Some k → IsLeastFrom test first n k
  some_from n k None found is = absurd (cc)
  some_from n k (Some j) found is =
      let same : first + j ≡ k = cc in
      subst (IsLeastFrom test first n) same (shifted n j ((some_is_least (λ i. test (first + i)) n j).0 found))

  from_some : (n k : ℕ) → IsLeastFrom test first n k → least_from test first n ≡ Some k
  from_some n k is =
      let from = is.from in
      let below = is.below in
      let e : first + (k - first) ≡ k = omega (arith, from) in
      ap (option_map (λ j. first + j))
      (least-some (λ j. test (first + j)) n (k - first) (omega (arith, from, below)) (ap test e ∙ is.passes) (λ j low. is.before (first + j) (omega arith) (omega (arith, from, low))))
      ∙ ap (λ (j : ℕ). Some j) e

  none_from : (n : ℕ) (o : Option ℕ) → least (λ j. test (first + j)) n ≡ o → option_map (λ j. first + j) o ≡ None → (k : ℕ) → first ≤ k → k < first + n → test k ≡ false
  none_from n None found is k from below =
      let e : first + (k - first) ≡ k = omega (arith, from) in
      sym (ap test e) ∙ (none_passes (λ j. test (first + j)) n).0 found (k - first) (omega (arith, from, below))
  none_from n (Some j) found is k from below = absurd (cc)

  from_none : (n : ℕ) → ((k : ℕ) → first ≤ k → k < first + n → test k ≡ false) → least_from test first n ≡ None
  from_none n none = ap (option_map (λ j. first + j)) (least-none (λ j. test (first + j)) n (λ j low. none (first + j) (omega arith) (omega (arith, low))))

  pub some_is_first_of : (n k : ℕ) → (least_from test first n ≡ Some k) ↔ IsLeastFrom test first n k
  some_is_first_of n k = (some_from n k (least (λ j. test (first + j)) n) refl, from_some n k)

  pub none_of_range : (n : ℕ) → (least_from test first n ≡ None) ↔ ((k : ℕ) → first ≤ k → k < first + n → test k ≡ false)
  none_of_range n = (none_from n (least (λ j. test (first + j)) n) refl, from_none n)

-- from 0 on
pub all_from : (test : ℕ → Bool) (n : ℕ) → least_from test 0 n ≡ least test n
all_from test n = by (least test n) refl
  where
    by : (o : Option ℕ) → least test n ≡ o → least_from test 0 n ≡ o
    by None is = from_none test 0 n (λ k from below. (none_passes test n).0 is k (omega (arith, below)))
    by (Some k) is =
        let found = (some_is_least test n k).0 is in
        let low = found.below in
        from_some test 0 n k record { from = omega arith; below = omega (arith, low); passes = found.passes; before = λ j from below. found.first j below }

-- two ranges, of which the second begins where the first ends
pub least_joins : (test : ℕ → Bool) (first a b : ℕ) → least_from test first (a + b) ≡ option_or (least_from test first a) (least_from test (first + a) b)
least_joins test first a b = by (least_from test first a) (least_from test (first + a) b) refl refl
  where
    by : (o p : Option ℕ) → least_from test first a ≡ o → least_from test (first + a) b ≡ p → least_from test first (a + b) ≡ option_or o p
    by (Some k) p here there =
        let found = (some_is_first_of test first a k).0 here in
        let low = found.below in
        from_some test first (a + b) k record { from = found.from; below = omega (arith, low); passes = found.passes; before = found.before }
    by None None here there = from_none test first (a + b) (λ k from below. elim (dec_le (first + a) k) [
      | yes behind ↦ (none_of_range test (first + a) b).0 there k behind (omega (arith, below))
      | no inside ↦ (none_of_range test first a).0 here k from (omega (arith, inside))
    ])
    by None (Some k) here there =
        let found = (some_is_first_of test (first + a) b k).0 there in
        let from = found.from in
        let low = found.below in
        from_some test first (a + b) k record {
          from = omega (arith, from);
          below = omega (arith, low);
          passes = found.passes;
          before = λ j up below. elim (dec_le (first + a) j) [
            | yes behind ↦ found.before j behind below
            | no inside ↦ (none_of_range test first a).0 here j up (omega (arith, inside))
          ];
        }

is_false : (b : Bool) → not b ≡ true → b ≡ false
is_false true e = absurd (true≢false (sym e))
is_false false e = refl

-- the schedule that was found, as a run
pub breaks_at_end : (plan : Plan) (condition : Formula) (s : State) (first n k : ℕ) → least_from (fails plan condition s) first n ≡ Some k
    → ((run_of (schedule_of plan k s).steps s).refusal ≡ None)
    × ((run_of (schedule_of plan k s).steps s).accepted ≡ length (schedule_of plan k s).steps)
    × (holds_in (run_of (schedule_of plan k s).steps s).state condition ≡ false)
breaks_at_end plan condition s first n k e =
    let run = run_turns plan k 0 plan.length s in
    let here = (some_is_first_of (fails plan condition s) first n k).0 e in (
      ap (λ (end : End). end.refusal) run,
      ap (λ (end : End). end.accepted) run,
      ap (λ (end : End). holds_in end.state condition) run ∙ is_false _ here.passes,
    )
