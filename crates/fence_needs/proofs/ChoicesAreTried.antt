-- Choices of sites that are tried, one after another.
use Rattle.std.proofs.Common.{◌≡◌, ℕ, zero, suc, ◌+◌, ◌<◌, Bool, true, false, List, [], ◌∷◌, length, refl, sym, subst, inl, inr, arith}
use Rattle.isa.specs.Objects.{Object}
use Rattle.machine.specs.Objects.{IsLoadable}
use Rattle.image_reasons.specs.declared.entries.Site.{Site}
use Rattle.explore.specs.declared.fault.ExploreFault.{ExploreFault}
use Rattle.explore.specs.declared.question.Question.{Question}
use Rattle.explore.specs.declared.verdict.Failure.{Failure}
use Rattle.verdicts.specs.Verdicts.{IsFailureOf, IsKeptBy, IsUntold}
use Rattle.fence_needs.specs.declared.need.SiteNeed.{SiteNeed}
use Rattle.fence_needs.specs.Changes.{without}
use Rattle.fence_needs.specs.Least.{IsSaidOfLeast, choices, most_choices, no_more_can_go, spare}
use Rattle.fence_needs.specs.Needs.{AreNeeds, left_out}
use Rattle.fence_needs.specs.Tried.{AreTried}
use Rattle.fence_needs.proofs.NeedsAreSo.{broken_by}
use Rattle.fence_needs.proofs.NoLargerNumberCanGo.{is_most, no_choice}

no_choices : (n : ℕ) (sites : List Site) → length sites < n → choices n sites ≡ 0
no_choices zero sites few = absurd (omega (arith, few))
no_choices (suc n) [] few = refl
no_choices (suc n) (x ∷ sites) few = omega (arith, no_choices n sites (omega (arith, few)), no_choices (suc n) sites (omega (arith, few)))

module _ (question : Question) (limit : ℕ) where
  pub too_few : (object : Object) (n : ℕ) (sites : List Site) (left : ℕ) → length sites < n → AreTried question limit object n sites left left true
  too_few object n sites left few = (no_choice question object n sites few, omega (arith, no_choices n sites few))

  pub one_breaks : (object : Object) (failure : Failure) (old new : ℕ) → IsFailureOf question object failure → old ≡ suc new
      → (sites : List Site) → AreTried question limit object 0 sites old new true
  one_breaks object failure old new fails one sites = (broken_by question object failure fails, omega (arith, one))

  pub one_holds : (object : Object) (old new : ℕ) → IsKeptBy question object → (sites : List Site) → AreTried question limit object 0 sites old new false
  one_holds object old new holds sites = inl (inl holds)

  pub one_is_untold : (object : Object) (fault : ExploreFault) (old new : ℕ) → IsUntold question limit object fault
      → (sites : List Site) → AreTried question limit object 0 sites old new false
  one_is_untold object fault old new untold sites = inl (inr (fault, untold))

  pub one_may_hold : (object : Object) (x : Site) (n : ℕ) (sites : List Site) (old mid : ℕ) → AreTried question limit (without object x) n sites old mid false
      → AreTried question limit object (suc n) (x ∷ sites) old mid false
  one_may_hold object x n sites old mid (inl some) = inl (inl some)
  one_may_hold object x n sites old mid (inr more) = inr (omega (arith, more))

  others_may_hold : (object : Object) (x : Site) (n : ℕ) (sites : List Site) (old mid new : ℕ) → old ≡ choices n sites + mid
      → AreTried question limit object (suc n) sites mid new false → AreTried question limit object (suc n) (x ∷ sites) old new false
  others_may_hold object x n sites old mid new count (inl some) = inl (inr some)
  others_may_hold object x n sites old mid new count (inr more) = inr (omega (arith, count, more))

  pub both_tried : (object : Object) (x : Site) (n : ℕ) (sites : List Site) (old mid new : ℕ) (told : Bool)
      → AreTried question limit (without object x) n sites old mid true → AreTried question limit object (suc n) sites mid new told
      → AreTried question limit object (suc n) (x ∷ sites) old new told
  both_tried object x n sites old mid new true first others = ((first.0, others.0), omega (arith, first.1, others.1))
  both_tried object x n sites old mid new false first others = others_may_hold object x n sites old mid new first.1 others

  pub next_tried : (object less : Object) (x : Site) (count n : ℕ) (sites rest : List Site) (old mid new : ℕ) (told first : Bool) → sites ≡ x ∷ rest
      → count ≡ suc n → less ≡ without object x → first ≡ true → AreTried question limit less n rest old mid first
      → AreTried question limit object count rest mid new told → AreTried question limit object count sites old new told
  next_tried object less x count n sites rest old mid new told first are more is breaks before others =
      subst (λ (k : ℕ). AreTried question limit object k sites old new told) (sym more)
      (subst (λ (all : List Site). AreTried question limit object (suc n) all old new told) (sym are)
      (both_tried object x n rest old mid new told
      (subst (λ (b : Bool). AreTried question limit (without object x) n rest old mid b) breaks
      (subst (λ (o : Object). AreTried question limit o n rest old mid first) is before))
      (subst (λ (k : ℕ). AreTried question limit object k rest mid new told) more others)))

  pub none_further : (object less : Object) (x : Site) (count n : ℕ) (sites rest : List Site) (old mid : ℕ) (first : Bool) → sites ≡ x ∷ rest
      → count ≡ suc n → less ≡ without object x → first ≡ false → AreTried question limit less n rest old mid first
      → AreTried question limit object count sites old mid false
  none_further object less x count n sites rest old mid first are more is may before =
      subst (λ (k : ℕ). AreTried question limit object k sites old mid false) (sym more)
      (subst (λ (all : List Site). AreTried question limit object (suc n) all old mid false) (sym are)
      (one_may_hold object x n rest old mid
      (subst (λ (b : Bool). AreTried question limit (without object x) n rest old mid b) may
      (subst (λ (o : Object). AreTried question limit o n rest old mid first) is before))))

  pub said_of_all : (object : Object) (needs : List SiteNeed) (old new : ℕ) (told : Bool) → IsLoadable object → AreNeeds question limit object needs
      → no_more_can_go needs ≡ true → old ≡ most_choices → AreTried question limit object (suc (length (left_out needs))) (spare needs) old new told
      → IsSaidOfLeast question limit object needs told
  said_of_all object needs old new true loadable are settled is tried = is_most question limit object needs are loadable settled tried.0
  said_of_all object needs old new false loadable are settled is (inl some) = inr (inl some)
  said_of_all object needs old new false loadable are settled is (inr more) =
      inr (inr (subst (λ (n : ℕ). n < choices (suc (length (left_out needs))) (spare needs)) is more))
