-- No larger number can go than those that are left out.
use Rattle.std.proofs.Common.{◌≡◌, ◌≢◌, ℕ, zero, suc, ◌<◌, ◌≤◌, ◌⊎◌, Bool, true, false, true≢false, Some, List, [], ◌∷◌, length, refl, sym, ap, subst, inl, inr, arith}
use Rattle.std.specs.Prelude.{if◌then◌else◌, slice_get}
use Rattle.isa.specs.Objects.{Object}
use Rattle.machine.specs.Objects.{IsLoadable}
use Rattle.image_reasons.specs.declared.entries.Site.{Site}
use Rattle.explore.specs.declared.question.Question.{Question}
use Rattle.verdicts.specs.Verdicts.{IsBrokenBy}
use Rattle.fence_needs.specs.declared.need.Need.{Need}
use Rattle.fence_needs.specs.declared.need.Need.TheVariants.{Needed, LeftOut, Kept, Untold, KeptUntold}
use Rattle.fence_needs.specs.declared.need.SiteNeed.{SiteNeed}
use Rattle.fence_needs.specs.Changes.{without, without_all}
use Rattle.fence_needs.specs.Least.{EachChoiceBreaks, IsMost, goes_alone, is_told, no_more_can_go, spare}
use Rattle.fence_needs.specs.Needs.{AreNeeds, left_out}
use Rattle.fence_needs.specs.Sites.{instr_at, is_fence}
use Rattle.fence_needs.proofs.FewerAtSites.{In, broken_without_more, contains_in, in_one, neither, same_site}
use Rattle.fence_needs.proofs.NeedsAreSo.{has, needed_breaks}
use Rattle.fence_needs.proofs.NoMoreCanGo.{fence_named, settled_at}

-- ---- lists in which nothing is twice

abbrev pub Distinct : List Site → Type 0
Distinct [] = Unit {0}
Distinct (x ∷ xs) = (In x xs → ⊥) × Distinct xs

at_place_of : (xs : List Site) (s : Site) → In s xs → (k : ℕ) × (slice_get xs k ≡ Some s)
at_place_of [] s is = absurd is
at_place_of (x ∷ xs) s (inl e) = (0, ap Some e)
at_place_of (x ∷ xs) s (inr is) = let (k, there) = at_place_of xs s is in (suc k, there)

distinct : (xs : List Site) → ((i j : ℕ) (s : Site) → slice_get xs i ≡ Some s → slice_get xs j ≡ Some s → i ≡ j) → Distinct xs
distinct [] once = tt
distinct (x ∷ xs) once = (
  (λ is. let (k, there) = at_place_of xs x is in absurd (omega (arith, once 0 (suc k) x refl there))),
  distinct xs (λ i j s here there. omega (arith, once (suc i) (suc j) s here there)),
)

-- the same without one that is in it
record IsWithoutOne (x : Site) (xs : List Site) : Type 0 where
  pub rest : List Site
  pub count : length xs ≡ suc (length rest)
  pub distinct : Distinct rest
  pub away : In x rest → ⊥
  pub within : (s : Site) → In s rest → In s xs

kept_away : (y : Site) (xs rest : List Site) → ((s : Site) → In s rest → In s xs) → (In y xs → ⊥) → In y rest → ⊥
kept_away y xs rest within away is = away (within y is)

away_too : (x y : Site) (xs rest : List Site) → In x xs → (In y xs → ⊥) → (In x rest → ⊥) → In x (y ∷ rest) → ⊥
away_too x y xs rest has_it away gone (inl e) = away (subst (λ (s : Site). In s xs) (sym e) has_it)
away_too x y xs rest has_it away gone (inr is) = gone is

within_too : (y : Site) (xs rest : List Site) → ((s : Site) → In s rest → In s xs) → (s : Site) → In s (y ∷ rest) → In s (y ∷ xs)
within_too y xs rest within s (inl e) = inl e
within_too y xs rest within s (inr is) = inr (within s is)

without_one : (x : Site) (xs : List Site) → Distinct xs → In x xs → IsWithoutOne x xs
without_one x [] apart is = absurd is
without_one x (y ∷ xs) apart (inl e) = record {
  rest = xs;
  count = refl;
  distinct = apart.1;
  away = λ is. apart.0 (subst (λ (s : Site). In s xs) (sym e) is);
  within = λ s is. inr is;
}
without_one x (y ∷ xs) apart (inr is) =
    let less = without_one x xs apart.1 is in
    record {
      rest = y ∷ less.rest;
      count = ap suc less.count;
      distinct = (kept_away y xs less.rest less.within apart.0, less.distinct);
      away = away_too x y xs less.rest is apart.0 less.away;
      within = within_too y xs less.rest less.within;
    }

-- ---- whether one is in a list

is_in_too : (x : Site) (xs : List Site) (s : Site) → (x ≡ s) ⊎ (x ≢ s) → In s xs ⊎ (In s xs → ⊥) → In s (x ∷ xs) ⊎ (In s (x ∷ xs) → ⊥)
is_in_too x xs s (inl e) rest = inl (inl e)
is_in_too x xs s (inr other) (inl is) = inl (inr is)
is_in_too x xs s (inr other) (inr away) = inr (λ is. neither x s xs other away is)

is_in : (s : Site) (xs : List Site) → In s xs ⊎ (In s xs → ⊥)
is_in s [] = inr (λ is. is)
is_in s (x ∷ xs) = is_in_too x xs s (same_site x s) (is_in s xs)

-- ---- a choice within sites

-- Without some of these sites some run breaks what is asked.
record IsBrokenWithSomeOf (question : Question) (object : Object) (sites : List Site) : Type 0 where
  pub some : List Site
  pub within : (s : Site) → In s some → In s sites
  pub broken : IsBrokenBy question (without_all object some)

later : (x s : Site) (spare rest : List Site) → (In x rest → ⊥) → In s rest → In s (x ∷ spare) → In s spare
later x s spare rest away is (inl e) = absurd (away (subst (λ (t : Site). In t rest) (sym e) is))
later x s spare rest away is (inr there) = there

some_within : (x : Site) (sites rest some : List Site) → In x sites → ((s : Site) → In s rest → In s sites) → ((s : Site) → In s some → In s rest)
    → (s : Site) → In s (x ∷ some) → In s sites
some_within x sites rest some has_it within inner s (inl e) = subst (λ (t : Site). In t sites) e has_it
some_within x sites rest some has_it within inner s (inr is) = within s (inner s is)

module _ (question : Question) where
  breaks_by : (object : Object) (x : Site) (n : ℕ) (spare sites : List Site) → Distinct sites → ((s : Site) → In s sites → In s (x ∷ spare)) → suc n ≤ length sites
      → ((rest : List Site) → Distinct rest → ((s : Site) → In s rest → In s spare) → n ≤ length rest → IsBrokenWithSomeOf question (without object x) rest)
      → (((s : Site) → In s sites → In s spare) → IsBrokenWithSomeOf question object sites)
      → In x sites ⊎ (In x sites → ⊥) → IsBrokenWithSomeOf question object sites
  breaks_by object x n spare sites apart all enough with_it without_it (inl there) =
      let less = without_one x sites apart there in
      let count : length sites ≡ suc (length less.rest) = less.count in
      let b = with_it less.rest less.distinct (λ s is. later x s spare less.rest less.away is (all s (less.within s is))) (omega (arith, enough, count)) in
      record { some = x ∷ b.some; within = some_within x sites less.rest b.some there less.within b.within; broken = b.broken }
  breaks_by object x n spare sites apart all enough with_it without_it (inr away) = without_it (λ s is. later x s spare sites away is (all s is))

  breaks_within : (object : Object) (n : ℕ) (spare sites : List Site) → EachChoiceBreaks question object n spare → Distinct sites
      → ((s : Site) → In s sites → In s spare) → n ≤ length sites → IsBrokenWithSomeOf question object sites
  breaks_within object zero spare sites breaks apart all enough = record { some = []; within = λ s is. absurd is; broken = breaks }
  breaks_within object (suc n) [] [] breaks apart all enough = absurd (omega (arith, enough))
  breaks_within object (suc n) [] (s ∷ sites) breaks apart all enough = absurd (all s (inl refl))
  breaks_within object (suc n) (x ∷ spare) sites breaks apart all enough =
      breaks_by object x n spare sites apart all enough
      (λ rest apart_too all_too enough_too. breaks_within (without object x) n spare rest breaks.0 apart_too all_too enough_too)
      (λ all_too. breaks_within object (suc n) spare sites breaks.1 apart all_too enough)
      (is_in x sites)

-- ---- where there are too few to choose

pub no_choice : (question : Question) (object : Object) (n : ℕ) (sites : List Site) → length sites < n → EachChoiceBreaks question object n sites
no_choice question object zero sites few = absurd (omega (arith, few))
no_choice question object (suc n) [] few = tt
no_choice question object (suc n) (x ∷ sites) few =
    (no_choice question (without object x) n sites (omega (arith, few)), no_choice question object (suc n) sites (omega (arith, few)))

-- ---- all that can go alone

in_if : (alone : Bool) (x s : Site) (rest : List Site) → In s rest → In s (if alone then x ∷ rest else rest)
in_if true x s rest is = inr is
in_if false x s rest is = is

in_spare : (needs : List SiteNeed) (i : ℕ) (one : SiteNeed) → slice_get needs i ≡ Some one → goes_alone one.need ≡ true → In one.site (spare needs)
in_spare [] i one there is = absurd cc
in_spare (first ∷ needs) zero one there is =
    let same : first ≡ one = cc in
    subst (λ (n : SiteNeed). In one.site (if goes_alone n.need then n.site ∷ spare needs else spare needs)) (sym same)
    (subst (λ (alone : Bool). In one.site (if alone then one.site ∷ spare needs else spare needs)) (sym is) (inl refl))
in_spare (first ∷ needs) (suc i) one there is = in_if (goes_alone first.need) first.site one.site (spare needs) (in_spare needs i one there is)

module _ (question : Question) (limit : ℕ) (object : Object) (needs : List SiteNeed) (are : AreNeeds question limit object needs) where
  -- it is needed, or it can go alone
  needed_or_spare : (i : ℕ) (one : SiteNeed) (need : Need) → slice_get needs i ≡ Some one → one.need ≡ need → is_told need ≡ true
      → IsBrokenBy question (without object one.site) ⊎ In one.site (spare needs)
  needed_or_spare i one (Needed failure) there is told = inl (needed_breaks question limit object needs are i one failure there is)
  needed_or_spare i one LeftOut there is told = inr (in_spare needs i one there (ap goes_alone is))
  needed_or_spare i one (Kept failure) there is told = inr (in_spare needs i one there (ap goes_alone is))
  needed_or_spare i one (Untold fault) there is told = absurd (true≢false (sym told))
  needed_or_spare i one (KeptUntold fault) there is told = absurd (true≢false (sym told))

  module _ (loadable : IsLoadable object) (settled : no_more_can_go needs ≡ true) where
    each_of_program : (s : Site) → is_fence (instr_at object s) ≡ true → IsBrokenBy question (without object s) ⊎ In s (spare needs)
    each_of_program s is =
        let (i, one, there, same) = has question limit object needs are s is in
        subst (λ (t : Site). IsBrokenBy question (without object t) ⊎ In t (spare needs)) same
        (needed_or_spare i one one.need there refl (settled_at question limit object needs are loadable settled i one there).0)

    first_or_rest : (x s : Site) (sites : List Site) → In x (spare needs) → ((s : Site) → In s sites → In s (spare needs)) → In s (x ∷ sites) → In s (spare needs)
    first_or_rest x s sites there all (inl e) = subst (λ (t : Site). In t (spare needs)) e there
    first_or_rest x s sites there all (inr is) = all s is

    one_more_of : (x : Site) (sites : List Site) → IsBrokenBy question (without object x) ⊎ In x (spare needs)
        → ((s : Site) × In s sites × IsBrokenBy question (without object s)) ⊎ ((s : Site) → In s sites → In s (spare needs))
        → ((s : Site) × In s (x ∷ sites) × IsBrokenBy question (without object s)) ⊎ ((s : Site) → In s (x ∷ sites) → In s (spare needs))
    one_more_of x sites (inl broken) rest = inl (x, inl refl, broken)
    one_more_of x sites (inr there) (inl (s, is, broken)) = inl (s, inr is, broken)
    one_more_of x sites (inr there) (inr all) = inr (λ s is. first_or_rest x s sites there all is)

    -- some of these sites is needed, or all can go alone
    needed_or_all : (sites : List Site) → ((s : Site) → In s sites → is_fence (instr_at object s) ≡ true)
        → ((s : Site) × In s sites × IsBrokenBy question (without object s)) ⊎ ((s : Site) → In s sites → In s (spare needs))
    needed_or_all [] fences = inr (λ s is. absurd is)
    needed_or_all (x ∷ sites) fences =
        one_more_of x sites (each_of_program x (fences x (inl refl))) (needed_or_all sites (λ s is. fences s (inr is)))

    some_broken : (sites : List Site) → ((s : Site) × In s sites × IsBrokenBy question (without object s)) ⊎ ((s : Site) → In s sites → In s (spare needs))
        → Distinct sites → suc (length (left_out needs)) ≤ length sites → EachChoiceBreaks question object (suc (length (left_out needs))) (spare needs)
        → IsBrokenWithSomeOf question object sites
    some_broken sites (inl (s, is, broken)) apart enough breaks = record {
      some = s ∷ [];
      within = λ t there. subst (λ (u : Site). In u sites) (in_one s t there) is;
      broken = broken;
    }
    some_broken sites (inr all) apart enough breaks =
        breaks_within question object (suc (length (left_out needs))) (spare needs) sites breaks apart all enough

    pub is_most : EachChoiceBreaks question object (suc (length (left_out needs))) (spare needs) → IsMost question object (length (left_out needs))
    is_most breaks sites are_sites more =
        let fences : (s : Site) → In s sites → is_fence (instr_at object s) ≡ true = λ s is. are_sites.fences s (contains_in sites s is) in
        let b = some_broken sites (needed_or_all sites fences) (distinct sites are_sites.once) more breaks in
        broken_without_more object b.some sites b.within
        (λ s is. inr (fence_named question limit object needs are loadable settled s (fences s is)))
        question loadable b.broken

    pub most_where_none_is_kept : spare needs ≡ left_out needs → IsMost question object (length (left_out needs))
    most_where_none_is_kept same =
        let few : length (spare needs) < suc (length (left_out needs)) = omega (arith, ap (λ (sites : List Site). length sites) same) in
        is_most (no_choice question object (suc (length (left_out needs))) (spare needs) few)
