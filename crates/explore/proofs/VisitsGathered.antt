-- What is gathered of the states that were visited.
use Rattle.std.proofs.Common.{◌≡◌, ℕ, ◌+◌, ◌<◌, inl, inr, Bool, true, false, Some, List, [], sym, ap, subst, ◌∙◌, arith}
use Rattle.std.proofs.lemmas.Bool.{cases_Bool}
use Rattle.std.proofs.lemmas.Bool.Decides.{nat_tests}
use Rattle.std.specs.Prelude.{◌⊎◌, Contains, nat_lt, slice_get}
use Rattle.machine.specs.declared.step.Step.{Step}
use Rattle.machine.specs.State.{State}
use Rattle.images.specs.Images.{IsImage, IsListing}
use Rattle.explore.specs.declared.question.Question.{Question}
use Rattle.explore.specs.Ahead.{IsIdle, IsPassed, by_sets, counts_locals, may_pass}
use Rattle.explore.specs.Found.{led_to, nodes_of}
use Rattle.explore.specs.Gathered.{AreGatheredImages, IsCollected, IsGathered, ends_at, visit_runs}
use Rattle.explore.specs.Sets.{included_all}
use Rattle.explore.proofs.FoundPaths.{Grows, get_grown, within_list}
use Rattle.explore.proofs.LaterNodes.{more_passed}
use Rattle.explore.proofs.SetsHold.{all_has}
use Rattle.explore.proofs.Visits.{nothing_there}

pub same_some : {A : Type 0} (x y : A) → Some x ≡ Some y → x ≡ y
same_some x y e = cc

-- one more is visited
module _ (xs ys : List (List Step)) (at : ℕ) (path : List Step) (grows : Grows xs ys) (there : slice_get xs at ≡ Some path) where
  still : (i : ℕ) (other : List Step) → slice_get xs i ≡ Some other → slice_get ys i ≡ Some other
  still i other is = get_grown xs ys i grows (within_list xs other i is) ∙ is

  before_or_at : (i : ℕ) (other : List Step) → i < at + 1 → slice_get ys i ≡ Some other → ((i < at) × (slice_get xs i ≡ Some other)) ⊎ ((at ≡ i) × (path ≡ other))
  before_or_at i other less is =
      let within = within_list xs path at there in
      let was : slice_get xs i ≡ Some other = sym (get_grown xs ys i grows (omega (arith, less, within))) ∙ is in
      elim (cases_Bool (nat_lt i at)) [
        | inl earlier ↦ inl (grind (arith, nat_tests, earlier), was)
        | inr last ↦ (let place : at ≡ i = grind (arith, nat_tests, last, less) in inr (place, same_some path other (sym there ∙ ap (slice_get xs) place ∙ was)))
      ]

  -- what a function gives of each
  module _ (give : State → List (List ℕ)) (start : State) where
    pub collected : (old new : List (List ℕ)) → IsCollected give start xs at old → new ≡ included_all old (give (led_to start path)) → IsCollected give start ys (at + 1) new
    collected old new was is = record {
      only = λ y in_new. elim ((all_has (give (led_to start path)) old y).0 (subst (λ (zs : List (List ℕ)). Contains zs y) is in_new)) [
        | inl before ↦ let (i, other, less, at_i, gave) = was.only y before in (i, other, (omega (arith, less)), still i other at_i, gave)
        | inr here ↦ (at, path, omega arith, still at path there, here)
      ];
      each = λ i other y less at_i gave. subst (λ (zs : List (List ℕ)). Contains zs y) (sym is) ((all_has (give (led_to start path)) old y).1 (elim (before_or_at i other less at_i) [
        | inl earlier ↦ inl (was.each i other y earlier.0 earlier.1 gave)
        | inr same ↦ inr (subst (λ (p : List Step). Contains (give (led_to start p)) y) (sym same.1) gave)
      ]));
    }

    -- nothing is given
    pub collected_nothing : (old : List (List ℕ)) → IsCollected give start xs at old → give (led_to start path) ≡ [] → IsCollected give start ys (at + 1) old
    collected_nothing old was none = collected old old was (sym (ap (included_all old) none))

  -- the images of each in which no step is a processor's own
  module _ (may locals : Bool) (start : State) where
    abbrev pub AreThere : List (List Step) → ℕ → List Step → List (List ℕ) → Type 0
    AreThere paths i other images =
        ((may ≡ true) × IsPassed locals (nodes_of start paths) i (led_to start other)) ⊎ ((image : List ℕ) → IsImage (led_to start other) image → Contains images image)

    still_there : (i : ℕ) (other : List Step) (old new : List (List ℕ)) → ((image : List ℕ) → Contains old image → Contains new image) → AreThere xs i other old → AreThere ys i other new
    still_there i other old new more (inl passed) = inl (passed.0, more_passed locals start xs ys i (led_to start other) grows passed.1)
    still_there i other old new more (inr are) = inr (λ image left. more image (are image left))

    pub images_gathered : (images old new : List (List ℕ)) → AreGatheredImages may locals start xs at old → IsListing (led_to start path) images → new ≡ included_all old images
        → AreGatheredImages may locals start ys (at + 1) new
    images_gathered images old new was listing is = record {
      only = λ image in_new. elim ((all_has images old image).0 (subst (λ (zs : List (List ℕ)). Contains zs image) is in_new)) [
        | inl before ↦ let (i, other, less, at_i, left) = was.only image before in (i, other, (omega (arith, less)), still i other at_i, left)
        | inr here ↦ (at, path, omega arith, still at path there, (listing.exact image).0 here)
      ];
      each = λ i other less at_i idle. elim (before_or_at i other less at_i) [
        | inl earlier ↦ still_there i other old new (λ image in_old. now image (inl in_old)) (was.each i other earlier.0 earlier.1 idle)
        | inr same ↦ inr (λ image left. now image (inr ((listing.exact image).1 (subst (λ (p : List Step). IsImage (led_to start p) image) (sym same.1) left))))
      ];
    }
      where
        now : (image : List ℕ) → Contains old image ⊎ Contains images image → Contains new image
        now image either = subst (λ (zs : List (List ℕ)). Contains zs image) (sym is) ((all_has images old image).1 either)

    -- a state gives none, in which a step is a processor's own, or whose images are left to a later one, or are there
    pub images_stay : (images : List (List ℕ)) → AreGatheredImages may locals start xs at images
        → (IsIdle locals (led_to start path) → AreThere ys at path images) → AreGatheredImages may locals start ys (at + 1) images
    images_stay images was there_too = record {
      only = λ image found. let (i, other, less, at_i, left) = was.only image found in (i, other, (omega (arith, less)), still i other at_i, left);
      each = λ i other less at_i idle. elim (before_or_at i other less at_i) [
        | inl earlier ↦ still_there i other images images (λ image is. is) (was.each i other earlier.0 earlier.1 idle)
        | inr same ↦ subst (λ (k : ℕ). AreThere ys k other images) same.0
            (subst (λ (p : List Step). AreThere ys at p images) same.1 (there_too (subst (λ (p : List Step). IsIdle locals (led_to start p)) (sym same.1) idle)))
      ];
    }

-- nothing is, before the first visit
nothing_collected : (give : State → List (List ℕ)) (start : State) (paths : List (List Step)) → IsCollected give start paths 0 []
nothing_collected give start paths = record {
  only = λ y there. absurd (nothing_there y there);
  each = λ i path y less. absurd (omega (arith, less));
}

no_images : (may locals : Bool) (start : State) (paths : List (List Step)) → AreGatheredImages may locals start paths 0 []
no_images may locals start paths = record {
  only = λ image there. absurd (nothing_there image there);
  each = λ i path less. absurd (omega (arith, less));
}

pub nothing_gathered : (question : Question) (start : State) (paths : List (List Step)) → IsGathered question start paths 0 (record { ends = []; recovered = []; images = []; ran = []; looked = [] })
nothing_gathered question start paths = record {
  ends = nothing_collected (ends_at false) start paths;
  recovered = nothing_collected (ends_at true) start paths;
  images = λ asked. no_images (may_pass (by_sets question start) question) (counts_locals question) start paths;
  ran = nothing_collected (visit_runs (counts_locals question)) start paths;
  looked = λ key there. absurd (nothing_there key there);
}
