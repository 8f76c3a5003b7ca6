-- Weaker instructions in place of flushes and fences that stay.
use Rattle.std.specs.Prelude.{◌≡◌, ℕ, Option, Some, None, List, [], ◌∷◌}
use Rattle.isa.specs.declared.instr.Access.TheVariants.{Flush}
use Rattle.isa.specs.declared.instr.FenceKind.TheVariants.{Mfence, Sfence}
use Rattle.isa.specs.declared.instr.FlushKind.TheVariants.{Clflush, Clwb}
use Rattle.isa.specs.declared.instr.Instr.{Instr}
use Rattle.isa.specs.declared.instr.Instr.TheVariants.{Memory, Fence}
use Rattle.isa.specs.Objects.{Object}
use Rattle.image_reasons.specs.declared.entries.Site.{Site}
use Rattle.explore.specs.declared.question.Question.{Question}
use Rattle.verdicts.specs.Verdicts.{IsFailureOf, IsKeptBy, IsUntold}
use Rattle.fence_needs.specs.declared.need.Need.{Need}
use Rattle.fence_needs.specs.declared.need.Need.TheVariants.{LeftOut}
use Rattle.fence_needs.specs.declared.need.SiteNeed.{SiteNeed}
use Rattle.fence_needs.specs.declared.need.Weaker.{Weaker}
use Rattle.fence_needs.specs.declared.need.WeakerSaid.{WeakerSaid}
use Rattle.fence_needs.specs.declared.need.WeakerSaid.TheVariants.{Does, DoesNot, NotKnown}
use Rattle.fence_needs.specs.Changes.{replaced}

-- the weaker one of an instruction: a `clwb` of a `clflush`, with its operand, and an `sfence` of an `mfence`
abbrev pub weaker_of : Instr → Option Instr
weaker_of (Memory (Flush Clflush) operand) = Some (Memory (Flush Clwb) operand)
weaker_of (Fence Mfence) = Some (Fence Sfence)
weaker_of _ = None

-- the weaker one that is tried: none of what is left out
abbrev pub weaker_tried : Need → Instr → Option Instr
weaker_tried LeftOut instr = None
weaker_tried _ instr = weaker_of instr

-- What is said of a program with a weaker instruction is so: what is asked holds of it, a run breaks that, or it is not told.
abbrev pub IsSaid : Question → ℕ → Object → WeakerSaid → Type 0
IsSaid question limit program Does = IsKeptBy question program
IsSaid question limit program (DoesNot failure) = IsFailureOf question program failure
IsSaid question limit program (NotKnown fault) = IsUntold question limit program fault

-- What is said of the weaker one is so, in place of the instruction at a site of a program. Nothing is said only where there is none.
abbrev pub IsWeakened : Question → ℕ → Object → Site → Option Instr → Option Weaker → Type 0
IsWeakened question limit program site None said = said ≡ None
IsWeakened question limit program site (Some weaker) (Some said) = (said.instr ≡ weaker) × IsSaid question limit (replaced program site weaker) said.said
IsWeakened question limit program site (Some weaker) None = ⊥

-- a program, or the changed one if that does
abbrev pub kept_if_it_does : Object → Object → WeakerSaid → Object
kept_if_it_does program changed Does = changed
kept_if_it_does program changed _ = program

-- a program with the weaker instruction at a site, if there is one and it does
abbrev pub weakened_at : Object → Site → Option Weaker → Object
weakened_at program site None = program
weakened_at program site (Some weaker) = kept_if_it_does program (replaced program site weaker.instr) weaker.said

-- a program with each that does
abbrev pub weakened : Object → List SiteNeed → Object
weakened program [] = program
weakened program (one ∷ needs) = weakened (weakened_at program one.site one.weaker) needs

-- What is said of the weaker ones is so, one after another: of each with those before it that do.
abbrev pub AreWeakened : Question → ℕ → Object → List SiteNeed → Type 0
AreWeakened question limit program [] = Unit {0}
AreWeakened question limit program (one ∷ needs) =
    IsWeakened question limit program one.site (weaker_tried one.need one.instr) one.weaker
    × AreWeakened question limit (weakened_at program one.site one.weaker) needs
