-- What is found of flushes and fences on the way: of each alone, of one more behind those that are left out, and of a weaker one.
use Rattle.std.specs.Prelude.{◌≡◌, ◌⊎◌, ℕ, ◌+◌, ◌<◌, Bool, true, false, Option, Some, None, List, []}
use Rattle.std.specs.List.{AllZip}
use Rattle.isa.specs.declared.instr.Instr.{Instr}
use Rattle.isa.specs.Objects.{Object}
use Rattle.image_reasons.specs.declared.entries.Site.{Site}
use Rattle.explore.specs.declared.question.Question.{Question}
use Rattle.verdicts.specs.Verdicts.{IsFailureOf, IsKeptBy, IsUntold}
use Rattle.fence_needs.specs.declared.need.Need.{Need}
use Rattle.fence_needs.specs.declared.need.Need.TheVariants.{Needed, LeftOut, Kept, Untold, KeptUntold}
use Rattle.fence_needs.specs.declared.need.SiteNeed.{SiteNeed}
use Rattle.fence_needs.specs.declared.need.Weaker.{Weaker}
use Rattle.fence_needs.specs.Changes.{without, without_all}
use Rattle.fence_needs.specs.Least.{EachChoiceBreaks, SomeChoiceMayHold, choices}
use Rattle.fence_needs.specs.Needs.{AreNeedsBehind, IsNeed, what_stays, with_left_out}
use Rattle.fence_needs.specs.Sites.{instr_at, sites_of}
use Rattle.fence_needs.specs.Weakened.{IsWeakened, weakened_at}

-- What is said of the instruction at a site is so of it alone. That it is kept for others that are left out is not said.
abbrev pub IsNeedAlone : Question → ℕ → Object → Site → Need → Type 0
IsNeedAlone question limit object site (Needed failure) = IsFailureOf question (without object site) failure
IsNeedAlone question limit object site LeftOut = IsKeptBy question (without object site)
IsNeedAlone question limit object site (Kept failure) = ⊥
IsNeedAlone question limit object site (Untold fault) = IsUntold question limit (without object site) fault
IsNeedAlone question limit object site (KeptUntold fault) = ⊥

-- the same with the site and the instruction
pub record IsOneAlone (question : Question) (limit : ℕ) (object : Object) (site : Site) (one : SiteNeed) : Type 0 where
  pub site_is : one.site ≡ site
  pub instr_is : one.instr ≡ instr_at object site
  pub need : IsNeedAlone question limit object site one.need

-- the same of all flushes and fences of a program
abbrev pub AreEachAlone : Question → ℕ → Object → List SiteNeed → Type 0
AreEachAlone question limit object alone = AllZip (IsOneAlone question limit object) (sites_of object) alone

-- This program is left without the instructions at these sites, and what is asked holds of it; there is none where there are no such sites.
abbrev pub IsLeft : Question → Object → List Site → Option Object → Type 0
IsLeft question object before None = before ≡ []
IsLeft question object before (Some left) = (left ≡ without_all object before) × IsKeptBy question left

-- One more was tried on a program: it is left out, and what is asked holds of the new program; or the program stays as it is.
abbrev pub IsTriedOn : Question → ℕ → Object → Site → Object → Need → Type 0
IsTriedOn question limit left site new LeftOut = (new ≡ without left site) × IsKeptBy question new
IsTriedOn question limit left site new (Kept failure) = (new ≡ left) × IsFailureOf question (without left site) failure
IsTriedOn question limit left site new (KeptUntold fault) = (new ≡ left) × IsUntold question limit (without left site) fault
IsTriedOn question limit left site new _ = ⊥

-- What is said of an instruction is so behind those that are left out, with the program that was left before it, and the one that is left then.
abbrev pub GoesOn : Question → ℕ → Object → Site → Need → Option Object → Option Object → Type 0
GoesOn question limit object site need old new = (before : List Site) → IsLeft question object before old
    → IsNeed question limit object before site need × IsLeft question object (with_left_out before site need) new

-- What is found of flushes and fences, but for the weaker ones: each is right, and what is asked holds without all that are left out
-- together if it holds of the program as it is.
pub record AreFound (question : Question) (limit : ℕ) (object : Object) (needs : List SiteNeed) : Type 0 where
  pub each : AreNeedsBehind question limit object [] (sites_of object) needs
  pub together : IsKeptBy question object → IsKeptBy question (what_stays object needs)

-- A weaker one was tried in a program, if there is one: what is said of it is so, and the program has it then if it does.
abbrev pub IsTriedIn : Question → ℕ → Object → Site → Option Instr → Object → Option Weaker → Type 0
IsTriedIn question limit program site weaker new said =
    IsWeakened question limit program site weaker said × (new ≡ weakened_at program site said)

-- Choices of so many of these sites were tried on a program, of which at most `old` more were to be tried, and then at most `new`: each breaks what
-- is asked; or some may not, or there are more of them.
abbrev pub AreTried : Question → ℕ → Object → ℕ → List Site → ℕ → ℕ → Bool → Type 0
AreTried question limit object n sites old new true = EachChoiceBreaks question object n sites × (old ≡ choices n sites + new)
AreTried question limit object n sites old new false = SomeChoiceMayHold question limit object n sites ⊎ (old < choices n sites)
