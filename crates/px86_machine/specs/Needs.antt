-- Words for clauses that speak of all runs of a program, and of those without some of its flushes and fences.
pub use Rattle.verdicts.specs.Verdicts.{IsBrokenBy, IsFailureOf, IsKeptBy, IsTold, IsUntold}
pub use Rattle.image_reasons.specs.declared.entries.Site.{Site}
pub use Rattle.fence_needs.specs.Sites.{instr_at, is_fence, sites_of}
pub use Rattle.fence_needs.specs.Changes.{MayStandIn, replaced, without, without_all}
pub use Rattle.fence_needs.specs.Needs.{AreNeeds, IsNeed, left_out, what_stays}
pub use Rattle.fence_needs.specs.Weakened.{AreWeakened, IsSaid, IsWeakened, kept_if_it_does, weaker_of, weaker_tried, weakened, weakened_at}
pub use Rattle.fence_needs.specs.Tried.{IsNeedAlone}
pub use Rattle.fence_needs.specs.declared.need.Need.{Need}
pub use Rattle.fence_needs.specs.declared.need.Need.TheVariants.{Needed, LeftOut, Kept, Untold, KeptUntold}
pub use Rattle.fence_needs.specs.declared.need.SiteNeed.{SiteNeed}
pub use Rattle.fence_needs.specs.declared.need.Weaker.{Weaker}
pub use Rattle.fence_needs.specs.declared.need.WeakerSaid.{WeakerSaid}
pub use Rattle.fence_needs.specs.declared.need.WeakerSaid.TheVariants.{Does, DoesNot, NotKnown}
pub use Rattle.fence_needs.specs.Least.{AreMore, AreSites, CannotGo, EachChoiceBreaks, IsMost, IsSaidOfLeast, LeftOutAreNamed, NoMoreCanGo, SomeChoiceMayHold, choices, goes_alone, is_settled, is_told, most_choices, no_more_can_go, spare}
pub use Rattle.fewer_fences.specs.Thinner.{AreByPlace, AreFewer, HasNops, HaveNops, IsOrIsNop, may_be_nop}
