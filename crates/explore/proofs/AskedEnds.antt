-- What is found where k markers went, and over all numbers of markers.
use Rattle.std.proofs.Common.{◌≡◌, ℕ, ◌≤◌, not, Option, List, Result, Ok, Err, find, length, ap, subst, ◌∙◌}
use Rattle.std.specs.Prelude.{IfOk}
use Rattle.lines_layout.specs.Shapes.{IsShape}
use Rattle.persist_buffer.specs.Listings.{LinesBelow}
use Rattle.persist_buffer.specs.State.{Memory, Pending}
use Rattle.pending_images.specs.Candidates.{all_lines, candidates, markers}
use Rattle.pending_images.specs.Images as pending
use Rattle.pending_images.specs.declared.fault.ImageFault.{ImageFault}
use Rattle.machine.specs.State.{State}
use Rattle.conditions.specs.Formulas.{Formula}
use Rattle.images.specs.Truth.{holds_on}
use Rattle.images.proofs.FirstImagesAreLeast.{first_is_least}
use Rattle.explore.specs.Asked.{asked_by}
use Rattle.explore.specs.Narrow.{BreaksAt, IsFirstFailing, IsLeast, IsLeftAt, IsNarrow, asked_product, product_on}
use Rattle.explore.proofs.AskedCounts.{narrow_candidates}
use Rattle.explore.proofs.LaterMemories.{IsWhole}
use Rattle.explore.proofs.NarrowLeast.{least_at}

pub whole_memory : (m : Memory) → LinesBelow 64 m.pending → length m.persisted ≡ 512 → IsWhole m
whole_memory m lines long = record { lines = lines; persisted = long }

pub found_at : (f : Formula) (s : State) (k : ℕ) (narrow : Memory) (images : List (List ℕ)) (found : Option (List ℕ)) → LinesBelow 64 s.memory.pending → length s.memory.persisted ≡ 512 → IsShape s.shape → k ≤ markers s.memory.pending
    → IsNarrow (asked_by f) s.memory k narrow → pending.IsListing s.shape narrow images → found ≡ find (λ image. not (holds_on s f image)) images → IsLeast (IsLeftAt s k) (λ image. not (holds_on s f image)) found
found_at f s k narrow images found lines long shape within is listing same =
    least_at f s k (whole_memory s.memory lines long) shape within narrow is found (first_is_least (record s { memory = narrow }) (λ image. not (holds_on s f image)) images found same listing)

pub counted_at : (f : Formula) (m : Memory) (k : ℕ) (narrow : Memory) → LinesBelow 64 m.pending → length m.persisted ≡ 512 → IsNarrow (asked_by f) m k narrow → candidates narrow.pending ≡ product_on (asked_by f) all_lines k m.pending
counted_at f m k narrow lines long is = narrow_candidates (asked_by f) m k (whole_memory m lines long) narrow is

-- the same of a pending list that is a state's
module _ (f : Formula) (s : State) (p : Pending) (k : ℕ) where
  pub found_in : (narrow : Pending) (images : List (List ℕ)) (found : Option (List ℕ)) → p ≡ record { shape = s.shape; memory = s.memory } → LinesBelow 64 p.memory.pending → length p.memory.persisted ≡ 512 → IsShape p.shape
      → k ≤ markers s.memory.pending → IsNarrow (asked_by f) p.memory k narrow.memory → narrow.shape ≡ p.shape → pending.IsListing narrow.shape narrow.memory images → found ≡ find (λ image. not (holds_on s f image)) images
      → IsLeast (IsLeftAt s k) (λ image. not (holds_on s f image)) found
  found_in narrow images found same lines long shape within is alike listing found_is =
      found_at f s k narrow.memory images found (subst (λ (q : Pending). LinesBelow 64 q.memory.pending) same lines) (subst (λ (q : Pending). length q.memory.persisted ≡ 512) same long) (subst (λ (q : Pending). IsShape q.shape) same shape) within
      (subst (λ (q : Pending). IsNarrow (asked_by f) q.memory k narrow.memory) same is) (subst (λ (h : List ℕ). pending.IsListing h narrow.memory images) (alike ∙ ap (λ (q : Pending). q.shape) same) listing) found_is

  pub counted_in : (narrow : Memory) → p ≡ record { shape = s.shape; memory = s.memory } → LinesBelow 64 p.memory.pending → length p.memory.persisted ≡ 512 → IsNarrow (asked_by f) p.memory k narrow
      → candidates narrow.pending ≡ product_on (asked_by f) all_lines k s.memory.pending
  counted_in narrow same lines long is = counted_at f p.memory k narrow lines long is ∙ ap (λ (q : Pending). product_on (asked_by f) all_lines k q.memory.pending) same

  -- the first image of the narrow list is the least, where one is answered
  pub found_of : (narrow : Pending) (told : Result (ℕ × Option (List ℕ)) ImageFault) → p ≡ record { shape = s.shape; memory = s.memory } → LinesBelow 64 p.memory.pending → length p.memory.persisted ≡ 512 → IsShape p.shape
      → k ≤ markers s.memory.pending → IsNarrow (asked_by f) p.memory k narrow.memory → narrow.shape ≡ p.shape → IfOk told (λ (r : ℕ × Option (List ℕ)). IsFirstFailing f s narrow r.1)
      → IfOk told (λ (r : ℕ × Option (List ℕ)). BreaksAt f s k r.1)
  found_of narrow (Ok r) same lines long shape within is alike (images, listing, first) = found_in narrow images r.1 same lines long shape within is alike listing first
  found_of narrow (Err fault) same lines long shape within is alike h = tt

  pub counted_of : (narrow : Memory) (told : Result (ℕ × Option (List ℕ)) ImageFault) → p ≡ record { shape = s.shape; memory = s.memory } → LinesBelow 64 p.memory.pending → length p.memory.persisted ≡ 512
      → IsNarrow (asked_by f) p.memory k narrow → IfOk told (λ (r : ℕ × Option (List ℕ)). r.0 ≡ candidates narrow.pending) → IfOk told (λ (r : ℕ × Option (List ℕ)). r.0 ≡ asked_product f k s)
  counted_of narrow (Ok r) same lines long is counted = counted ∙ counted_in narrow same lines long is
  counted_of narrow (Err fault) same lines long is h = tt
