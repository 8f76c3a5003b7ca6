-- What the flushes and fences of a program are needed for.
use Rattle.std.specs.Prelude.{◌≡◌, ℕ, List, [], ◌∷◌, ◌++◌}
use Rattle.isa.specs.Objects.{Object}
use Rattle.image_reasons.specs.declared.entries.Site.{Site}
use Rattle.explore.specs.declared.question.Question.{Question}
use Rattle.verdicts.specs.Verdicts.{IsFailureOf, IsKeptBy, IsUntold}
use Rattle.fence_needs.specs.declared.need.Need.{Need}
use Rattle.fence_needs.specs.declared.need.Need.TheVariants.{Needed, LeftOut, Kept, Untold, KeptUntold}
use Rattle.fence_needs.specs.declared.need.SiteNeed.{SiteNeed}
use Rattle.fence_needs.specs.Changes.{without, without_all}
use Rattle.fence_needs.specs.Sites.{instr_at, sites_of}
use Rattle.fence_needs.specs.Weakened.{AreWeakened, weakened}

-- What is said of the instruction at a site is so, where these before it are left out.
abbrev pub IsNeed : Question → ℕ → Object → List Site → Site → Need → Type 0
IsNeed question limit object before site (Needed failure) = IsFailureOf question (without object site) failure
IsNeed question limit object before site LeftOut = IsKeptBy question (without object site)
IsNeed question limit object before site (Kept failure) =
    IsKeptBy question (without object site) × IsFailureOf question (without_all object (before ++ site ∷ [])) failure
IsNeed question limit object before site (Untold fault) = IsUntold question limit (without object site) fault
IsNeed question limit object before site (KeptUntold fault) =
    IsKeptBy question (without object site) × IsUntold question limit (without_all object (before ++ site ∷ [])) fault

-- these sites, and behind them this one if it is left out
abbrev pub with_left_out : List Site → Site → Need → List Site
with_left_out before site LeftOut = before ++ site ∷ []
with_left_out before site _ = before

-- The needs are those of sites, one after another, behind these that are left out.
abbrev pub AreNeedsBehind : Question → ℕ → Object → List Site → List Site → List SiteNeed → Type 0
AreNeedsBehind question limit object before [] [] = Unit {0}
AreNeedsBehind question limit object before (site ∷ sites) (one ∷ needs) =
    (one.site ≡ site) × (one.instr ≡ instr_at object site) × IsNeed question limit object before site one.need
    × AreNeedsBehind question limit object (with_left_out before site one.need) sites needs
AreNeedsBehind question limit object before _ _ = ⊥

-- the sites of those that are left out
abbrev pub left_out : List SiteNeed → List Site
left_out [] = []
left_out (one ∷ needs) = with_left_out [] one.site one.need ++ left_out needs

-- the program without all that are left out
abbrev pub what_stays : Object → List SiteNeed → Object
what_stays object needs = without_all object (left_out needs)

-- The needs are those of the flushes and fences of a program: each is right, and what is asked holds without all that are left out
-- together. So it is for the weaker ones: what is said of each is right without all that are left out, and what is asked holds then with all
-- that do together.
pub record AreNeeds (question : Question) (limit : ℕ) (object : Object) (needs : List SiteNeed) : Type 0 where
  pub each : AreNeedsBehind question limit object [] (sites_of object) needs
  pub together : IsKeptBy question (what_stays object needs)
  pub each_weaker : AreWeakened question limit (what_stays object needs) needs
  pub weaker_together : IsKeptBy question (weakened (what_stays object needs) needs)
