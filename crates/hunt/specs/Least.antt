-- What a hunt looks for.
use Rattle.std.specs.Prelude.{◌≡◌, ◌↔◌, ℕ, zero, suc, ◌+◌, ◌<◌, ◌≤◌, Bool, true, false, not, Option, Some, None, option_map, if◌then◌else◌}
use Rattle.std.specs.Option.{option_or}
use Rattle.machine.specs.State.{State}
use Rattle.conditions.specs.Formulas.{Formula}
use Rattle.images.specs.Truth.{holds_in}
use Rattle.schedule.specs.declared.plan.Plan.{Plan}
use Rattle.schedule.specs.Schedules.{schedule_of}

-- whether the schedule of a plan that has this number ends, from a state, where the condition does not hold
abbrev pub fails : Plan → Formula → State → ℕ → Bool
fails plan condition s number = not (holds_in (schedule_of plan number s).state condition)

-- a number that was found, or else n where the test is true of it
abbrev pub or_last : (ℕ → Bool) → ℕ → Option ℕ → Option ℕ
or_last test n (Some k) = Some k
or_last test n None = if test n then Some n else None

-- the smallest number below n of which the test is true
abbrev pub least : (ℕ → Bool) → ℕ → Option ℕ
least test zero = None
least test (suc n) = or_last test n (least test n)

-- The test is true of k, which is below n, and of no smaller number.
pub record IsLeast (test : ℕ → Bool) (n k : ℕ) : Type 0 where
  pub below : k < n
  pub passes : test k ≡ true
  pub first : (j : ℕ) → j < k → test j ≡ false

-- the smallest of the n numbers from `first` on of which the test is true
abbrev pub least_from : (ℕ → Bool) → ℕ → ℕ → Option ℕ
least_from test first n = option_map (λ k. first + k) (least (λ k. test (first + k)) n)

-- The test is true of k, which is one of the n numbers from `first` on, and of none of these that is smaller.
pub record IsLeastFrom (test : ℕ → Bool) (first n k : ℕ) : Type 0 where
  pub from : first ≤ k
  pub below : k < first + n
  pub passes : test k ≡ true
  pub before : (j : ℕ) → first ≤ j → j < k → test j ≡ false

-- The test is true of no number below n.
abbrev pub IsFalseBelow : (ℕ → Bool) → ℕ → Type 0
IsFalseBelow test n = (k : ℕ) → k < n → test k ≡ false

-- What is found of the n numbers from `first` on is the first of which the test is true.
abbrev pub FindsFirst : (ℕ → Bool) → ℕ → ℕ → Type 0
FindsFirst test first n = (k : ℕ) → (least_from test first n ≡ Some k) ↔ IsLeastFrom test first n k

-- There is none exactly when the test is true of none of them.
abbrev pub FindsNone : (ℕ → Bool) → ℕ → ℕ → Type 0
FindsNone test first n = (least_from test first n ≡ None) ↔ ((k : ℕ) → first ≤ k → k < first + n → test k ≡ false)

-- What is found of a numbers and the b numbers after them is what is found of the first, or where there is none, of the others.
abbrev pub FindsOfBoth : (ℕ → Bool) → ℕ → ℕ → ℕ → Type 0
FindsOfBoth test first a b = least_from test first (a + b) ≡ option_or (least_from test first a) (least_from test (first + a) b)
