-- That of the flushes and fences of a program no more can go than those that are left out, and no larger number.
use Rattle.std.specs.Prelude.{◌≡◌, ◌&&◌, ◌⊎◌, ℕ, zero, suc, ◌+◌, ◌<◌, Bool, true, false, if◌then◌else◌, Contains, Some, List, [], ◌∷◌, length, slice_get}
use Rattle.std.specs.List.{list_all}
use Rattle.isa.specs.Objects.{Object}
use Rattle.image_reasons.specs.declared.entries.Site.{Site}
use Rattle.explore.specs.declared.fault.ExploreFault.{ExploreFault}
use Rattle.explore.specs.declared.question.Question.{Question}
use Rattle.verdicts.specs.Verdicts.{IsBrokenBy, IsKeptBy, IsUntold}
use Rattle.fewer_fences.specs.Thinner.{AreFewer, may_be_nop}
use Rattle.fence_needs.specs.declared.need.Need.{Need}
use Rattle.fence_needs.specs.declared.need.Need.TheVariants.{Needed, LeftOut, Kept, Untold, KeptUntold}
use Rattle.fence_needs.specs.declared.need.SiteNeed.{SiteNeed}
use Rattle.fence_needs.specs.Changes.{without, without_all}
use Rattle.fence_needs.specs.Needs.{left_out}
use Rattle.fence_needs.specs.Sites.{instr_at, is_fence}

-- ---- what is said

-- One of a program cannot go, whatever else goes: of the program without it, and of each with a nop in place of more of its fences, or of its flushes of
-- words that are named by their addresses, some run breaks what is asked.
abbrev pub CannotGo : Question → Object → Site → Type 0
CannotGo question program site = (less : Object) → AreFewer (without program site) less → IsBrokenBy question less

-- Sites of flushes and fences of a program: all of these, and one more at least.
pub record AreMore (object : Object) (these more : List Site) : Type 0 where
  pub fences : (site : Site) → Contains more site → is_fence (instr_at object site) ≡ true
  pub all : (site : Site) → Contains these site → Contains more site
  pub one : (site : Site) × Contains more site × (Contains these site → ⊥)

-- No more flushes and fences of a program can go than those at these sites: without those at all these sites and more, some run breaks what is asked.
abbrev pub NoMoreCanGo : Question → Object → List Site → Type 0
NoMoreCanGo question object these = (more : List Site) → AreMore object these more → IsBrokenBy question (without_all object more)

-- Sites of flushes and fences of a program, none of them twice.
pub record AreSites (object : Object) (sites : List Site) : Type 0 where
  pub fences : (site : Site) → Contains sites site → is_fence (instr_at object site) ≡ true
  pub once : (i j : ℕ) (site : Site) → slice_get sites i ≡ Some site → slice_get sites j ≡ Some site → i ≡ j

-- No more than so many flushes and fences of a program can go: without more than so many, whichever they are, some run breaks what is asked.
abbrev pub IsMost : Question → Object → ℕ → Type 0
IsMost question object n = (sites : List Site) → AreSites object sites → n < length sites → IsBrokenBy question (without_all object sites)

-- ---- of which it is said

-- Each that is left out is a fence, or a flush of a word that it names by its address. What such ones take away from runs is known: a flush of a
-- word that a register names may trap, where a nop does not.
abbrev pub LeftOutAreNamed : List SiteNeed → Type 0
LeftOutAreNamed needs = (i : ℕ) (one : SiteNeed) → slice_get needs i ≡ Some one → one.need ≡ LeftOut → may_be_nop one.instr ≡ true

-- whether it is told of an instruction if it is needed
abbrev pub is_told : Need → Bool
is_told (Untold fault) = false
is_told (KeptUntold fault) = false
is_told _ = true

-- the same, and it is a fence, or a flush of a word that it names by its address
abbrev pub is_settled : SiteNeed → Bool
is_settled one = is_told one.need && may_be_nop one.instr

-- whether this is so of all: then no more can go than those that are left out
abbrev pub no_more_can_go : List SiteNeed → Bool
no_more_can_go needs = list_all is_settled needs

-- ---- by which it is said that no larger number can go

-- whether what is asked holds without an instruction alone
abbrev pub goes_alone : Need → Bool
goes_alone (Needed failure) = false
goes_alone LeftOut = true
goes_alone (Kept failure) = true
goes_alone (Untold fault) = false
goes_alone (KeptUntold fault) = true

-- the sites of those without which alone it holds
abbrev pub spare : List SiteNeed → List Site
spare [] = []
spare (one ∷ needs) = if goes_alone one.need then one.site ∷ spare needs else spare needs

-- Without so many of these sites, whichever they are, some run of a program breaks what is asked.
abbrev pub EachChoiceBreaks : Question → Object → ℕ → List Site → Type 0
EachChoiceBreaks question object zero sites = IsBrokenBy question object
EachChoiceBreaks question object (suc n) [] = Unit {0}
EachChoiceBreaks question object (suc n) (site ∷ sites) =
    EachChoiceBreaks question (without object site) n sites × EachChoiceBreaks question object (suc n) sites

-- Without some so many of these sites what is asked holds of a program, or it is not told.
abbrev pub SomeChoiceMayHold : Question → ℕ → Object → ℕ → List Site → Type 0
SomeChoiceMayHold question limit object zero sites = IsKeptBy question object ⊎ ((fault : ExploreFault) × IsUntold question limit object fault)
SomeChoiceMayHold question limit object (suc n) [] = ⊥
SomeChoiceMayHold question limit object (suc n) (site ∷ sites) =
    SomeChoiceMayHold question limit (without object site) n sites ⊎ SomeChoiceMayHold question limit object (suc n) sites

-- how many choices of so many of these sites there are
abbrev pub choices : ℕ → List Site → ℕ
choices zero sites = 1
choices (suc n) [] = 0
choices (suc n) (site ∷ sites) = choices n sites + choices (suc n) sites

-- how many programs are tried at most
abbrev pub most_choices : ℕ
most_choices = 100

-- That no larger number can go than those that are left out is so, where it is said. Where it is not said, then it is not told of all needs, or one is a flush of a word that a register
-- names; or what is asked may hold without one more of those without which alone it holds; or there are too many choices of these.
abbrev pub IsSaidOfLeast : Question → ℕ → Object → List SiteNeed → Bool → Type 0
IsSaidOfLeast question limit object needs true = IsMost question object (length (left_out needs))
IsSaidOfLeast question limit object needs false =
    (no_more_can_go needs ≡ false) ⊎ SomeChoiceMayHold question limit object (suc (length (left_out needs))) (spare needs)
    ⊎ (most_choices < choices (suc (length (left_out needs))) (spare needs))
