-- What a list of needs says, one by one.
use Rattle.std.proofs.Common.{◌≡◌, ℕ, zero, suc, ◌<◌, true, Some, List, [], ◌∷◌, ◌++◌, length, take, get_or, append_assoc, refl, sym, ap, subst, ◌∙◌, arith}
use Rattle.std.specs.Prelude.{Contains, slice_get}
use Rattle.std.proofs.lemmas.List.{append-nil}
use Rattle.std.proofs.lemmas.List.Elements.{All-contains}
use Rattle.isa.specs.Objects.{Object}
use Rattle.image_reasons.specs.declared.entries.Site.{Site}
use Rattle.explore.specs.declared.question.Question.{Question}
use Rattle.explore.specs.declared.verdict.Failure.{Failure}
use Rattle.verdicts.specs.Verdicts.{IsBrokenBy, IsFailureOf}
use Rattle.verdicts.proofs.FailuresBreak.{failure_breaks, kept_is_not_broken}
use Rattle.fence_needs.specs.declared.need.Need.{Need}
use Rattle.fence_needs.specs.declared.need.Need.TheVariants.{Needed, LeftOut, Kept}
use Rattle.fence_needs.specs.declared.need.SiteNeed.{SiteNeed}
use Rattle.fence_needs.specs.Changes.{without, without_all}
use Rattle.fence_needs.specs.Listed.{HasSite, ListsEachOnce}
use Rattle.fence_needs.specs.Needs.{AreNeeds, AreNeedsBehind, IsNeed, left_out, what_stays, with_left_out}
use Rattle.fence_needs.specs.Sites.{instr_at, is_fence, sites_of}
use Rattle.fence_needs.proofs.NeedsGoOn.{behind_them}
use Rattle.fence_needs.proofs.SitesAreApart.{listed_once}
use Rattle.fence_needs.proofs.SitesAreOfFences.{listed_always, listed_only}

-- what is said at a place of the list
pub record IsSaid (question : Question) (limit : ℕ) (object : Object) (before : List Site) (sites : List Site) (i : ℕ) (one : SiteNeed) : Type 0 where
  pub site_there : slice_get sites i ≡ Some one.site
  pub instr_is : one.instr ≡ instr_at object one.site
  pub need : IsNeed question limit object before one.site one.need

said : (question : Question) (limit : ℕ) (object : Object) (before sites : List Site) (needs : List SiteNeed) (i : ℕ) (one : SiteNeed)
    → AreNeedsBehind question limit object before sites needs → slice_get needs i ≡ Some one
    → IsSaid question limit object (before ++ left_out (take i needs)) sites i one
said question limit object before [] [] i one are there = absurd cc
said question limit object before [] (first ∷ needs) i one are there = absurd are
said question limit object before (site ∷ sites) [] i one are there = absurd are
said question limit object before (site ∷ sites) (first ∷ needs) zero one are there =
    let is : first ≡ one = cc in
    let here : one.site ≡ site = ap (λ (n : SiteNeed). n.site) (sym is) ∙ are.0 in
    record {
      site_there = ap Some (sym here);
      instr_is = ap (λ (n : SiteNeed). n.instr) (sym is) ∙ are.1 ∙ ap (λ (s : Site). instr_at object s) (sym here);
      need =
          subst (λ (sites : List Site). IsNeed question limit object sites one.site one.need) (sym (append-nil before))
          (subst (λ (s : Site). IsNeed question limit object before s one.need) (sym here) (subst (λ (n : SiteNeed). IsNeed question limit object before site n.need) is are.2));
    }
said question limit object before (site ∷ sites) (first ∷ needs) (suc i) one are there =
    let rest = said question limit object (with_left_out before site first.need) sites needs i one are.3 there in
    let joined : with_left_out before site first.need ++ left_out (take i needs) ≡ before ++ (with_left_out [] first.site first.need ++ left_out (take i needs)) =
    ap (λ (all : List Site). all ++ left_out (take i needs)) (behind_them before site first.need)
    ∙ append_assoc before (with_left_out [] site first.need) (left_out (take i needs))
    ∙ ap (λ (s : Site). before ++ (with_left_out [] s first.need ++ left_out (take i needs))) (sym are.0) in
    record {
      site_there = rest.site_there;
      instr_is = rest.instr_is;
      need = subst (λ (all : List Site). IsNeed question limit object all one.site one.need) joined rest.need;
    }

has_each : (question : Question) (limit : ℕ) (object : Object) (before sites : List Site) (needs : List SiteNeed) (i : ℕ) (site : Site)
    → AreNeedsBehind question limit object before sites needs → slice_get sites i ≡ Some site
    → (one : SiteNeed) × (slice_get needs i ≡ Some one) × (one.site ≡ site)
has_each question limit object before [] [] i site are there = absurd cc
has_each question limit object before [] (first ∷ needs) i site are there = absurd are
has_each question limit object before (other ∷ sites) [] i site are there = absurd are
has_each question limit object before (other ∷ sites) (first ∷ needs) zero site are there = let is : other ≡ site = cc in (first, refl, are.0 ∙ is)
has_each question limit object before (other ∷ sites) (first ∷ needs) (suc i) site are there =
    has_each question limit object (with_left_out before other first.need) sites needs i site are.3 there

at_index : {A : Type 0} (xs : List A) (i : ℕ) (x : A) → i < length xs → get_or xs i x ≡ x → slice_get xs i ≡ Some x
at_index [] i x within is = absurd (omega (arith, within))
at_index (y ∷ xs) zero x within is = ap Some is
at_index (y ∷ xs) (suc i) x within is = at_index xs i x (omega (arith, within)) is

contains : {A : Type 0} (xs : List A) (i : ℕ) (x : A) → slice_get xs i ≡ Some x → Contains xs x
contains [] i x there = absurd cc
contains (y ∷ xs) zero x there = let is : y ≡ x = cc in (0, omega arith, is)
contains (y ∷ xs) (suc i) x there =
    let c = contains xs i x there in
    let k = c.0 in let within : k < length xs = c.1 in (suc k, omega (arith, within), c.2)

pub broken_by : (question : Question) (program : Object) (failure : Failure) → IsFailureOf question program failure → IsBrokenBy question program
broken_by question program failure fails = (failure.asked, failure.run, failure.values, failure_breaks failure.asked question program failure.run failure.values fails)

module _ (question : Question) (limit : ℕ) (object : Object) (needs : List SiteNeed) (are : AreNeeds question limit object needs) where
  pub at_place : (i : ℕ) (one : SiteNeed) → slice_get needs i ≡ Some one → IsSaid question limit object (left_out (take i needs)) (sites_of object) i one
  at_place i one there = said question limit object [] (sites_of object) needs i one are.each there

  pub has : (site : Site) → is_fence (instr_at object site) ≡ true → HasSite needs site
  has site is =
      let listed = listed_always object site is in
      let found = has_each question limit object [] (sites_of object) needs listed.0 site are.each (at_index (sites_of object) listed.0 site listed.1 listed.2) in
      (listed.0, found.0, found.1, found.2)

  pub lists_each_once : ListsEachOnce object needs
  lists_each_once = record {
    each = has;
    fence = λ i one there.
        let said = at_place i one there in
        ap is_fence said.instr_is
        ∙ All-contains (λ (s : Site). is_fence (instr_at object s) ≡ true) (sites_of object) one.site (listed_only object) (contains (sites_of object) i one.site said.site_there);
    instr = λ i one there. (at_place i one there).instr_is;
    once = λ i j one other first second same.
        listed_once object i j one.site (at_place i one first).site_there
        ((at_place j other second).site_there ∙ ap Some (sym same));
  }

  need_as : (i : ℕ) (one : SiteNeed) (need : Need) → slice_get needs i ≡ Some one → one.need ≡ need → IsNeed question limit object (left_out (take i needs)) one.site need
  need_as i one need there is = subst (λ (n : Need). IsNeed question limit object (left_out (take i needs)) one.site n) is (at_place i one there).need

  pub needed_breaks : (i : ℕ) (one : SiteNeed) (failure : Failure) → slice_get needs i ≡ Some one → one.need ≡ Needed failure → IsBrokenBy question (without object one.site)
  needed_breaks i one failure there is = broken_by question (without object one.site) failure (need_as i one (Needed failure) there is)

  pub left_out_keeps : (i : ℕ) (one : SiteNeed) → slice_get needs i ≡ Some one → one.need ≡ LeftOut → IsBrokenBy question (without object one.site) → ⊥
  left_out_keeps i one there is = kept_is_not_broken question (without object one.site) (need_as i one LeftOut there is)

  pub kept_breaks : (i : ℕ) (one : SiteNeed) (failure : Failure) → slice_get needs i ≡ Some one → one.need ≡ Kept failure
      → (IsBrokenBy question (without object one.site) → ⊥) × IsBrokenBy question (without_all object (left_out (take i needs) ++ one.site ∷ []))
  kept_breaks i one failure there is =
      let so = need_as i one (Kept failure) there is in
      (kept_is_not_broken question (without object one.site) so.0, broken_by question (without_all object (left_out (take i needs) ++ one.site ∷ [])) failure so.1)

  pub together_keeps : IsBrokenBy question (what_stays object needs) → ⊥
  together_keeps = kept_is_not_broken question (what_stays object needs) are.together
