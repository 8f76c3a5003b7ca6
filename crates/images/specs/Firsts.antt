-- The least image of a state that passes a test. Images are ordered by the first word in which two differ.
use Rattle.std.specs.Prelude.{◌≡◌, ◌⊎◌, Bool, true, false, Option, Some, None, ℕ, List}
use Rattle.std.specs.declared.cmp.Ordering.TheVariants.{Less}
use Rattle.std.specs.Ordering.{nat_cmp}
use Rattle.std.specs.Cmp.Lexicographic.{slice_cmp}
use Rattle.machine.specs.State.{State}
use Rattle.conditions.specs.Formulas.{Formula}
use Rattle.images.specs.Images.{IsImage, IsListing}
use Rattle.images.specs.Truth.{fails_on, holds_on}

-- no image of the state passes, or this one and none below it
abbrev pub IsLeastImage : State → (List ℕ → Bool) → Option (List ℕ) → Type 0
IsLeastImage s test None = (image : List ℕ) → IsImage s image → test image ≡ false
IsLeastImage s test (Some least) = IsImage s least × (test least ≡ true)
    × ((image : List ℕ) → IsImage s image → test image ≡ true → (least ≡ image) ⊎ (slice_cmp nat_cmp least image ≡ Less))

-- where these are all images of the state, the least is found for which a formula fails; none where there is none
abbrev pub IsLeastFailing : State → Formula → List (List ℕ) → Option (List ℕ) → Type 0
IsLeastFailing s f images found = IsListing s images → IsLeastImage s (fails_on s f) found

-- the same where it holds
abbrev pub IsLeastHolding : State → Formula → List (List ℕ) → Option (List ℕ) → Type 0
IsLeastHolding s f images found = IsListing s images → IsLeastImage s (holds_on s f) found
