-- What is said of a weaker instruction, one by one.
use Rattle.std.proofs.Common.{◌≡◌, ◌≢◌, ℕ, zero, suc, Option, Some, None, List, [], ◌∷◌, take, refl, sym, ap, subst, ◌∙◌}
use Rattle.std.specs.Prelude.{slice_get}
use Rattle.isa.specs.declared.instr.Instr.{Instr}
use Rattle.isa.specs.Objects.{Object}
use Rattle.image_reasons.specs.declared.entries.Site.{Site}
use Rattle.explore.specs.declared.fault.ExploreFault.{ExploreFault}
use Rattle.explore.specs.declared.question.Question.{Question}
use Rattle.explore.specs.declared.verdict.Failure.{Failure}
use Rattle.verdicts.specs.Verdicts.{IsBrokenBy, IsUntold}
use Rattle.verdicts.proofs.FailuresBreak.{kept_is_not_broken}
use Rattle.fence_needs.specs.declared.need.Need.{Need}
use Rattle.fence_needs.specs.declared.need.Need.TheVariants.{LeftOut}
use Rattle.fence_needs.specs.declared.need.SiteNeed.{SiteNeed}
use Rattle.fence_needs.specs.declared.need.Weaker.{Weaker}
use Rattle.fence_needs.specs.declared.need.WeakerSaid.{WeakerSaid}
use Rattle.fence_needs.specs.declared.need.WeakerSaid.TheVariants.{Does, DoesNot, NotKnown}
use Rattle.fence_needs.specs.Changes.{replaced}
use Rattle.fence_needs.specs.Needs.{AreNeeds, what_stays}
use Rattle.fence_needs.specs.Weakened.{AreWeakened, IsSaid, IsWeakened, weaker_of, weaker_tried, weakened, weakened_at}
use Rattle.fence_needs.proofs.NeedsAreSo.{broken_by}
use Rattle.fence_needs.proofs.WeakerOnesMayStand.{tried_is_weaker}

stays_tried : (need : Need) (instr : Instr) → need ≢ LeftOut → weaker_tried need instr ≡ weaker_of instr
stays_tried LeftOut instr stays = absurd (stays refl)
stays_tried _ instr stays = refl

module _ (question : Question) (limit : ℕ) where
  said_there : (program : Object) (needs : List SiteNeed) (i : ℕ) (one : SiteNeed) → AreWeakened question limit program needs → slice_get needs i ≡ Some one
      → IsWeakened question limit (weakened program (take i needs)) one.site (weaker_tried one.need one.instr) one.weaker
  said_there program [] i one are there = absurd cc
  said_there program (first ∷ needs) zero one are there =
      let is : first ≡ one = cc in
      subst (λ (n : SiteNeed). IsWeakened question limit program n.site (weaker_tried n.need n.instr) n.weaker) is are.0
  said_there program (first ∷ needs) (suc i) one are there = said_there (weakened_at program first.site first.weaker) needs i one are.1 there

  one_said : (program : Object) (site : Site) (tried : Option Instr) (weaker : Weaker) → IsWeakened question limit program site tried (Some weaker)
      → (tried ≡ Some weaker.instr) × IsSaid question limit (replaced program site weaker.instr) weaker.said
  one_said program site None weaker is = absurd (cc is)
  one_said program site (Some instr) weaker is =
      (ap Some (sym is.0), subst (λ (w : Instr). IsSaid question limit (replaced program site w) weaker.said) (sym is.0) is.1)

  none_said : (program : Object) (site : Site) (tried : Option Instr) (instr : Instr) → tried ≡ Some instr → IsWeakened question limit program site tried None → ⊥
  none_said program site None instr some is = absurd (cc some)
  none_said program site (Some weaker) instr some is = is

  module _ (object : Object) (needs : List SiteNeed) (are : AreNeeds question limit object needs) where
    -- the program in which it is tried
    abbrev before : ℕ → Object
    before i = weakened (what_stays object needs) (take i needs)

    as_said : (i : ℕ) (one : SiteNeed) (said : Option Weaker) → slice_get needs i ≡ Some one → one.weaker ≡ said
        → IsWeakened question limit (before i) one.site (weaker_tried one.need one.instr) said
    as_said i one said there is =
        subst (λ (s : Option Weaker). IsWeakened question limit (before i) one.site (weaker_tried one.need one.instr) s) is
        (said_there (what_stays object needs) needs i one are.each_weaker there)

    some_said : (i : ℕ) (one : SiteNeed) (weaker : Weaker) → slice_get needs i ≡ Some one → one.weaker ≡ Some weaker
        → (weaker_tried one.need one.instr ≡ Some weaker.instr) × IsSaid question limit (replaced (before i) one.site weaker.instr) weaker.said
    some_said i one weaker there is = one_said (before i) one.site (weaker_tried one.need one.instr) weaker (as_said i one (Some weaker) there is)

    said_as : (i : ℕ) (one : SiteNeed) (weaker : Weaker) (said : WeakerSaid) → slice_get needs i ≡ Some one → one.weaker ≡ Some weaker → weaker.said ≡ said
        → IsSaid question limit (replaced (before i) one.site weaker.instr) said
    said_as i one weaker said there is so =
        subst (λ (s : WeakerSaid). IsSaid question limit (replaced (before i) one.site weaker.instr) s) so (some_said i one weaker there is).1

    pub weaker_is_of : (i : ℕ) (one : SiteNeed) (weaker : Weaker) → slice_get needs i ≡ Some one → one.weaker ≡ Some weaker → weaker_of one.instr ≡ Some weaker.instr
    weaker_is_of i one weaker there is = tried_is_weaker one.need one.instr weaker.instr (some_said i one weaker there is).0

    pub weaker_does : (i : ℕ) (one : SiteNeed) (weaker : Weaker) → slice_get needs i ≡ Some one → one.weaker ≡ Some weaker → weaker.said ≡ Does
        → IsBrokenBy question (replaced (before i) one.site weaker.instr) → ⊥
    weaker_does i one weaker there is so =
        kept_is_not_broken question (replaced (before i) one.site weaker.instr) (said_as i one weaker Does there is so)

    pub weaker_does_not : (i : ℕ) (one : SiteNeed) (weaker : Weaker) (failure : Failure) → slice_get needs i ≡ Some one → one.weaker ≡ Some weaker
        → weaker.said ≡ DoesNot failure → IsBrokenBy question (replaced (before i) one.site weaker.instr)
    weaker_does_not i one weaker failure there is so =
        broken_by question (replaced (before i) one.site weaker.instr) failure (said_as i one weaker (DoesNot failure) there is so)

    pub weaker_not_known : (i : ℕ) (one : SiteNeed) (weaker : Weaker) (fault : ExploreFault) → slice_get needs i ≡ Some one → one.weaker ≡ Some weaker
        → weaker.said ≡ NotKnown fault → IsUntold question limit (replaced (before i) one.site weaker.instr) fault
    weaker_not_known i one weaker fault there is so = said_as i one weaker (NotKnown fault) there is so

    pub each_is_tried : (i : ℕ) (one : SiteNeed) (instr : Instr) → slice_get needs i ≡ Some one → one.need ≢ LeftOut
        → weaker_of one.instr ≡ Some instr → one.weaker ≢ None
    each_is_tried i one instr there stays has none =
        none_said (before i) one.site (weaker_tried one.need one.instr) instr (stays_tried one.need one.instr stays ∙ has) (as_said i one None there none)

    pub left_out_has_none : (i : ℕ) (one : SiteNeed) → slice_get needs i ≡ Some one → one.need ≡ LeftOut → one.weaker ≡ None
    left_out_has_none i one there is =
        subst (λ (n : Need). IsWeakened question limit (before i) one.site (weaker_tried n one.instr) one.weaker) is (as_said i one one.weaker there refl)

    pub weaker_keep : IsBrokenBy question (weakened (what_stays object needs) needs) → ⊥
    weaker_keep = kept_is_not_broken question (weakened (what_stays object needs) needs) are.weaker_together
