-- What stays cannot go too.
use Rattle.std.proofs.Common.{◌≡◌, ◌≢◌, ℕ, zero, suc, ◌⊎◌, Bool, true, true≢false, Some, List, [], ◌∷◌, ◌++◌, take, refl, sym, ap, subst, ◌∙◌, inl, inr}
use Rattle.std.specs.Prelude.{Contains, slice_get}
use Rattle.std.specs.List.{list_all}
use Rattle.std.proofs.lemmas.Bool.{and_parts}
use Rattle.isa.specs.Objects.{Object}
use Rattle.machine.specs.Objects.{IsLoadable}
use Rattle.image_reasons.specs.declared.entries.Site.{Site}
use Rattle.explore.specs.declared.question.Question.{Question}
use Rattle.verdicts.specs.Verdicts.{IsBrokenBy}
use Rattle.fewer_fences.specs.Thinner.{may_be_nop}
use Rattle.fewer_fences.proofs.QuestionsKept.{broken_too}
use Rattle.fence_needs.specs.declared.need.Need.{Need}
use Rattle.fence_needs.specs.declared.need.Need.TheVariants.{Needed, LeftOut, Kept, Untold, KeptUntold}
use Rattle.fence_needs.specs.declared.need.SiteNeed.{SiteNeed}
use Rattle.fence_needs.specs.Changes.{without, without_all}
use Rattle.fence_needs.specs.Least.{AreMore, CannotGo, LeftOutAreNamed, NoMoreCanGo, is_settled, is_told, no_more_can_go}
use Rattle.fence_needs.specs.Needs.{AreNeeds, left_out, what_stays, with_left_out}
use Rattle.fence_needs.specs.Sites.{instr_at, is_fence}
use Rattle.fence_needs.proofs.FewerAtSites.{In, broken_without_more, contains_in, in_contains, in_either, in_first, in_last, in_one, loadable_all}
use Rattle.fence_needs.proofs.NeedsAreSo.{at_place, has, kept_breaks, needed_breaks}
use Rattle.fence_needs.proofs.NeedsGoOn.{one_more_without}

-- ---- the sites of those that are left out

-- A need of the list is that of this site, and it is left out.
abbrev IsLeftOut : List SiteNeed → Site → Type 0
IsLeftOut needs s = (i : ℕ) × (one : SiteNeed) × (slice_get needs i ≡ Some one) × (one.need ≡ LeftOut) × (one.site ≡ s)

first_left_out : (one : SiteNeed) (needs : List SiteNeed) (s : Site) (need : Need) → one.need ≡ need → In s (with_left_out [] one.site need) → IsLeftOut (one ∷ needs) s
first_left_out one needs s (Needed failure) is there = absurd there
first_left_out one needs s LeftOut is there = (0, one, refl, is, in_one one.site s there)
first_left_out one needs s (Kept failure) is there = absurd there
first_left_out one needs s (Untold fault) is there = absurd there
first_left_out one needs s (KeptUntold fault) is there = absurd there

later_left_out : (one : SiteNeed) (needs : List SiteNeed) (s : Site) → IsLeftOut needs s → IsLeftOut (one ∷ needs) s
later_left_out one needs s (i, other, there, is, same) = (suc i, other, there, is, same)

either_left_out : (one : SiteNeed) (needs : List SiteNeed) (s : Site) → (In s (left_out needs) → IsLeftOut needs s)
    → In s (with_left_out [] one.site one.need) ⊎ In s (left_out needs) → IsLeftOut (one ∷ needs) s
either_left_out one needs s rest (inl there) = first_left_out one needs s one.need refl there
either_left_out one needs s rest (inr there) = later_left_out one needs s (rest there)

is_left_out : (needs : List SiteNeed) (s : Site) → In s (left_out needs) → IsLeftOut needs s
is_left_out [] s there = absurd there
is_left_out (one ∷ needs) s there =
    either_left_out one needs s (is_left_out needs s) (in_either (with_left_out [] one.site one.need) (left_out needs) s there)

in_left_out : (needs : List SiteNeed) (i : ℕ) (one : SiteNeed) → slice_get needs i ≡ Some one → one.need ≡ LeftOut → In one.site (left_out needs)
in_left_out [] i one there is = absurd cc
in_left_out (first ∷ needs) zero one there is =
    let same : first ≡ one = cc in
    in_first (with_left_out [] first.site first.need) (left_out needs) one.site
    (subst (λ (n : SiteNeed). In one.site (with_left_out [] n.site n.need)) (sym same)
    (subst (λ (need : Need). In one.site (with_left_out [] one.site need)) (sym is) (inl refl)))
in_left_out (first ∷ needs) (suc i) one there is =
    in_last (with_left_out [] first.site first.need) (left_out needs) one.site (in_left_out needs i one there is)

in_rest : (one : SiteNeed) (first needs : List SiteNeed) (s : Site) → (In s (left_out first) → In s (left_out needs))
    → In s (with_left_out [] one.site one.need) ⊎ In s (left_out first) → In s (left_out (one ∷ needs))
in_rest one first needs s rest (inl there) = in_first (with_left_out [] one.site one.need) (left_out needs) s there
in_rest one first needs s rest (inr there) = in_last (with_left_out [] one.site one.need) (left_out needs) s (rest there)

in_some : (needs : List SiteNeed) (i : ℕ) (s : Site) → In s (left_out (take i needs)) → In s (left_out needs)
in_some [] zero s there = absurd there
in_some [] (suc i) s there = absurd there
in_some (one ∷ needs) zero s there = absurd there
in_some (one ∷ needs) (suc i) s there =
    in_rest one (take i needs) needs s (in_some needs i s) (in_either (with_left_out [] one.site one.need) (left_out (take i needs)) s there)

all_at : {A : Type 0} (p : A → Bool) (xs : List A) (i : ℕ) (x : A) → list_all p xs ≡ true → slice_get xs i ≡ Some x → p x ≡ true
all_at p [] i x all there = absurd cc
all_at p (y ∷ xs) zero x all there = let same : y ≡ x = cc in ap p (sym same) ∙ (and_parts (p y) (list_all p xs) all).0
all_at p (y ∷ xs) (suc i) x all there = all_at p xs i x (and_parts (p y) (list_all p xs) all).1 there

-- ---- one that stays

module _ (question : Question) (limit : ℕ) (object : Object) (needs : List SiteNeed) (are : AreNeeds question limit object needs) where
  -- A run breaks what is asked without it and some of those that are left out.
  record IsBrokenWithSome (site : Site) : Type 0 where
    pub some : List Site
    pub within : (s : Site) → In s some → In s (left_out needs)
    pub broken : IsBrokenBy question (without_all object (some ++ site ∷ []))

  broken_as : (i : ℕ) (one : SiteNeed) (need : Need) → slice_get needs i ≡ Some one → one.need ≡ need → need ≢ LeftOut → is_told need ≡ true
      → IsBrokenWithSome one.site
  broken_as i one (Needed failure) there is stays told = record {
    some = [];
    within = λ s none. absurd none;
    broken = needed_breaks question limit object needs are i one failure there is;
  }
  broken_as i one LeftOut there is stays told = absurd (stays refl)
  broken_as i one (Kept failure) there is stays told = record {
    some = left_out (take i needs);
    within = in_some needs i;
    broken = (kept_breaks question limit object needs are i one failure there is).1;
  }
  broken_as i one (Untold fault) there is stays told = absurd (true≢false (sym told))
  broken_as i one (KeptUntold fault) there is stays told = absurd (true≢false (sym told))

  broken_with_some : (i : ℕ) (one : SiteNeed) → slice_get needs i ≡ Some one → one.need ≢ LeftOut → is_told one.need ≡ true → IsBrokenWithSome one.site
  broken_with_some i one there stays told = broken_as i one one.need there refl stays told

  module _ (loadable : IsLoadable object) where
    -- it may be a nop
    named_at : LeftOutAreNamed needs → (s : Site) → IsLeftOut needs s → may_be_nop (instr_at object s) ≡ true
    named_at named s (i, one, there, is, same) =
        ap (λ (s : Site). may_be_nop (instr_at object s)) (sym same)
        ∙ ap may_be_nop (sym (at_place question limit object needs are i one there).instr_is) ∙ named i one there is

    may_at : LeftOutAreNamed needs → (site : Site) (some : List Site) (s : Site) → In s (left_out needs) ⊎ In s (site ∷ [])
        → In s (some ++ site ∷ []) ⊎ (may_be_nop (instr_at object s) ≡ true)
    may_at named site some s (inl there) = inr (named_at named s (is_left_out needs s there))
    may_at named site some s (inr there) = inl (in_last some (site ∷ []) s there)

    all_within : (site : Site) (some : List Site) → ((s : Site) → In s some → In s (left_out needs)) → (s : Site) → In s some ⊎ In s (site ∷ [])
        → In s (left_out needs ++ site ∷ [])
    all_within site some within s (inl there) = in_first (left_out needs) (site ∷ []) s (within s there)
    all_within site some within s (inr there) = in_last (left_out needs) (site ∷ []) s there

    pub cannot_go : LeftOutAreNamed needs → (i : ℕ) (one : SiteNeed) → slice_get needs i ≡ Some one → one.need ≢ LeftOut → is_told one.need ≡ true
        → CannotGo question (what_stays object needs) one.site
    cannot_go named i one there stays told less fewer =
        let b = broken_with_some i one there stays told in
        let site = one.site in
        let all = left_out needs ++ site ∷ [] in
        let broken : IsBrokenBy question (without_all object all) =
        broken_without_more object (b.some ++ site ∷ []) all
        (λ s is. all_within site b.some b.within s (in_either b.some (site ∷ []) s is))
        (λ s is. may_at named site b.some s (in_either (left_out needs) (site ∷ []) s is))
        question loadable b.broken in
        let same : without_all object all ≡ without (what_stays object needs) site = one_more_without object (left_out needs) site in
        broken_too (without (what_stays object needs) site) less
        (subst (λ (o : Object). IsLoadable o) same (loadable_all object all loadable)) fewer question
        (subst (λ (o : Object). IsBrokenBy question o) same broken)

    -- ---- all

    pub settled_at : no_more_can_go needs ≡ true → (i : ℕ) (one : SiteNeed) → slice_get needs i ≡ Some one → (is_told one.need ≡ true) × (may_be_nop one.instr ≡ true)
    settled_at settled i one there = and_parts (is_told one.need) (may_be_nop one.instr) (all_at is_settled needs i one settled there)

    pub fence_named : no_more_can_go needs ≡ true → (s : Site) → is_fence (instr_at object s) ≡ true → may_be_nop (instr_at object s) ≡ true
    fence_named settled s is =
        let (i, one, there, same) = has question limit object needs are s is in
        ap (λ (s : Site). may_be_nop (instr_at object s)) (sym same)
        ∙ ap may_be_nop (sym (at_place question limit object needs are i one there).instr_is) ∙ (settled_at settled i one there).1

    some_within : (more : List Site) (site : Site) (some : List Site) → AreMore object (left_out needs) more → Contains more site
        → ((s : Site) → In s some → In s (left_out needs)) → (s : Site) → In s some ⊎ In s (site ∷ []) → In s more
    some_within more site some are_more has_it within s (inl there) = in_contains more s (are_more.all s (contains_in (left_out needs) s (within s there)))
    some_within more site some are_more has_it within s (inr there) = subst (λ (t : Site). In t more) (in_one site s there) (in_contains more site has_it)

    pub no_more : no_more_can_go needs ≡ true → NoMoreCanGo question object (left_out needs)
    no_more settled more are_more =
        let (site, has_it, away) = are_more.one in
        let (i, one, there, same) = has question limit object needs are site (are_more.fences site has_it) in
        let stays : one.need ≢ LeftOut =
        λ is. away (contains_in (left_out needs) site (subst (λ (s : Site). In s (left_out needs)) same (in_left_out needs i one there is))) in
        let b = broken_with_some i one there stays (settled_at settled i one there).0 in
        let holds_it : Contains more one.site = subst (λ (s : Site). Contains more s) (sym same) has_it in
        broken_without_more object (b.some ++ one.site ∷ []) more
        (λ s is. some_within more one.site b.some are_more holds_it b.within s (in_either b.some (one.site ∷ []) s is))
        (λ s is. inr (fence_named settled s (are_more.fences s (contains_in more s is))))
        question loadable b.broken
