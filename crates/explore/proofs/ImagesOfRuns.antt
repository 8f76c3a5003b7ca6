-- The images of few states are those of all that runs reach.
use Rattle.std.proofs.Common.{◌≡◌, ℕ, ◌≤◌, inl, inr, Bool, true, false, Some, List, length, refl, sym, ap, subst, ◌∙◌, arith, true≢false}
use Rattle.std.specs.Prelude.{◌⊎◌, ◌&&◌, Contains, slice_get}
use Rattle.std.specs.Option.{option_map_or}
use Rattle.conditions.specs.Truth.{reads_persisted}
use Rattle.pending_images.specs.Listings.{in_order}
use Rattle.pending_images.proofs.OrderedImages as ordered
use Rattle.machine.specs.State.{State}
use Rattle.images.specs.Images.{IsImage, image_at}
use Rattle.explore.specs.declared.question.Question.{Question}
use Rattle.explore.specs.Ahead.{AreClosedFrom, IsIdle, IsPassed, IsTried, may_pass}
use Rattle.explore.specs.Exploring.{IsExploring}
use Rattle.explore.specs.Found.{Found, led_to, nodes_of}
use Rattle.explore.specs.Gathered.{AreGatheredImages}
use Rattle.explore.specs.RunImages.{AreImagesOfRuns, IsImageOfRuns}
use Rattle.explore.proofs.ClosedAhead.{all_known}
use Rattle.explore.proofs.CoveredSteps.{sound_whole}
use Rattle.explore.proofs.FoundPaths.{within_list}
use Rattle.explore.proofs.HeldByLines.{held_are_reached}
use Rattle.explore.proofs.LaterNodes.{later_node}
use Rattle.explore.proofs.Members.{get_of, place_of, there_at}
use Rattle.explore.proofs.SpeakingFor.{Leaves, leaves_reached}

-- an image of a state that a run reaches is one of a closed state in which no step is a processor's own
pub images_by_few : (sets locals : Bool) (question : Question) (nodes : List State) (start : State) (image : List ℕ) → AreClosedFrom sets locals question nodes start
    → IsImageOfRuns question.crashes start image → (r : State) × Contains nodes r × IsTried sets locals question nodes r × IsImage r image
images_by_few sets locals question nodes start image from (t, reachable, (persisted, reached, shown)) =
    let (r, there, tried, looked, shape, restarted, left) = (all_known sets locals question nodes from.closed start from t reachable).left persisted reached in
    let here = leaves_reached sets r.memory persisted (sound_whole r (from.sound_nodes r there)) left in
    (r, there, tried, (persisted, here, shown ∙ ap (λ (lines : List ℕ). image_at lines persisted) shape))

-- what was gathered of them, in order, is all
module _ (sets locals : Bool) (question : Question) (start : State) (found : Found) (at : ℕ) (all : length found.paths ≤ at) (x : IsExploring sets locals question start found at)
    (from : AreClosedFrom sets locals question (nodes_of start found.paths) start) (images : List (List ℕ)) (gives : AreGatheredImages (may_pass sets question) locals start found.paths at images) where
  only : (image : List ℕ) → Contains images image → IsImageOfRuns question.crashes start image
  only image there =
      let (i, path, less, at_i, left) = gives.only image there in
      (led_to start path, (path, x.found.runs path (there_at found.paths path i at_i)), left)

  -- the images of a node were gathered
  abbrev AreThere : State → Type 0
  AreThere r = (image : List ℕ) → IsImage r image → Contains images image

  gathered_at : (i : ℕ) (r : State) → slice_get (nodes_of start found.paths) i ≡ Some r → IsIdle locals r
      → ((may_pass sets question ≡ true) × IsPassed locals (nodes_of start found.paths) i r) ⊎ AreThere r
  gathered_at i r at_i idle =
      let (path, place, is) = get_of (led_to start) found.paths i r at_i in
      let less = within_list found.paths path i place in
      subst (λ (t : State). ((may_pass sets question ≡ true) × IsPassed locals (nodes_of start found.paths) i t) ⊎ AreThere t) is
      (gives.each i path (omega (arith, less, all)) place (subst (IsIdle locals) (sym is) idle))

  passed_or_there : (i : ℕ) (r : State) → slice_get (nodes_of start found.paths) i ≡ Some r → IsIdle locals r → IsPassed locals (nodes_of start found.paths) i r ⊎ AreThere r
  passed_or_there i r at_i idle = elim (gathered_at i r at_i idle) [ inl passed ↦ inl passed.1 | inr are ↦ inr are ]

  -- what a node leaves was gathered, there or of a later one
  by_kind : (b : Bool) → sets ≡ b → (t r : State) (image persisted : List ℕ) → Contains (nodes_of start found.paths) r → IsIdle locals r → t.shape ≡ r.shape
      → Leaves b r.memory persisted → image ≡ image_at t.shape persisted → Contains images image
  by_kind true is t r image persisted there idle shape held shown =
      let l = later_node locals (nodes_of start found.paths) AreThere passed_or_there r persisted there idle held in
      let reached = held_are_reached l.node.memory persisted (sound_whole l.node (from.sound_nodes l.node l.there)) l.held in
      l.is image (persisted, reached, shown ∙ ap (λ (lines : List ℕ). image_at lines persisted) (shape ∙ l.shape))
  by_kind false is t r image persisted there idle shape reached shown =
      let (i, at_i) = place_of (nodes_of start found.paths) r there in
      let never : may_pass sets question ≡ false = ap (λ (b : Bool). b && option_map_or reads_persisted question.all true) is in
      elim (gathered_at i r at_i idle) [
        | inl passed ↦ absurd (true≢false (sym passed.0 ∙ never))
        | inr are ↦ are image (persisted, reached, shown ∙ ap (λ (lines : List ℕ). image_at lines persisted) shape)
      ]

  always : (image : List ℕ) → IsImageOfRuns question.crashes start image → Contains images image
  always image (t, reachable, (persisted, reached, shown)) =
      let (r, there, tried, looked, shape, restarted, left) = (all_known sets locals question (nodes_of start found.paths) from.closed start from t reachable).left persisted reached in
      by_kind sets refl t r image persisted there tried.idle shape left shown

  pub images_are : AreImagesOfRuns question.crashes start (in_order images)
  images_are = record {
    exact = λ image. (λ there. only image ((ordered.in_order_has images image).0 there), λ left. (ordered.in_order_has images image).1 (always image left));
    ascending = ordered.in_order_rises images;
  }
