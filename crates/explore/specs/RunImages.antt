-- The memories that crashes may leave, of all states that runs reach.
use Rattle.std.specs.Prelude.{◌↔◌, ℕ, Bool, List, Contains}
use Rattle.std.specs.List.Sorted.{IsStrictlySortedBy}
use Rattle.std.specs.Ordering.{nat_cmp}
use Rattle.std.specs.Cmp.Lexicographic.{slice_cmp}
use Rattle.machine.specs.State.{State}
use Rattle.images.specs.Images.{IsImage}
use Rattle.explore.specs.Reachable.{IsReachable}

-- What a crash may leave in s, it may leave in t.
abbrev pub HasImagesOf : State → State → Type 0
HasImagesOf t s = (image : List ℕ) → IsImage s image → IsImage t image

-- Some run leads to a state in which a crash may leave this image.
abbrev pub IsImageOfRuns : Bool → State → List ℕ → Type 0
IsImageOfRuns crashes start image = (t : State) × IsReachable crashes start t × IsImage t image

-- The images of all states that runs reach: ascending, each once, and nothing else.
pub record AreImagesOfRuns (crashes : Bool) (start : State) (images : List (List ℕ)) : Type 0 where
  pub exact : (image : List ℕ) → Contains images image ↔ IsImageOfRuns crashes start image
  pub ascending : IsStrictlySortedBy (slice_cmp nat_cmp) images
