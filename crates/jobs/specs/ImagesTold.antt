-- An image that `images` names, and what explains it.
use Rattle.std.specs.Prelude.{ℕ, Bool, if◌then◌else◌, Option, Some, None, option_map, Ok, List, []}
use Rattle.lines_layout.specs.Layouts.{NamedLines}
use Rattle.lines_layout.specs.Names.{Text}
use Rattle.litmus_text.specs.TextLines.{TextLines}
use Rattle.isa.specs.Objects as programs
use Rattle.machine.specs.declared.step.Step.{Step}
use Rattle.image_reasons.specs.declared.missing.Missing.{Missing}
use Rattle.image_reasons.specs.Reasons.{missing_after}
use Rattle.commands.specs.declared.fault.Stage.TheVariants as stages
use Rattle.commands.specs.MissingTexts.{image_lines}
use Rattle.commands.specs.Works.{Work, work}

-- An image, and the writes that are missing in it.
pub record ImageTold : Type 0 where
  -- the values of its words
  pub image : List ℕ
  -- the writes that are missing in it, if it is one of the state
  pub missing : Option (List Missing)

-- what is told of an image, after these steps of a program
abbrev pub image_told : programs.Object → List Step → List ℕ → ImageTold
image_told object steps image = record { image = image; missing = missing_after object steps image }

-- the same where it is asked for, and an image is named
abbrev pub told_if : Bool → programs.Object → List Step → Option (List ℕ) → Option ImageTold
told_if asked object steps image = if asked then option_map (image_told object steps) image else None

-- out of memory for it is reported as that of images
abbrev pub told_work : Bool → programs.Object → List Step → Option (List ℕ) → Work (Option ImageTold)
told_work asked object steps image = work stages.Images (Ok (told_if asked object steps image))

-- the image that breaks a condition, where one is asked for, and one does
abbrev pub image_broken : Option (Option (List ℕ)) → Option (List ℕ)
image_broken None = None
image_broken (Some counterexample) = counterexample

-- an image, if a set leaves it
abbrev pub image_left : List ℕ → Option (List ℕ) → Option (List ℕ)
image_left image None = None
image_left image (Some places) = Some image

-- the lines of it, where it is told
abbrev pub explained_lines : NamedLines → TextLines → Option ImageTold → Text
explained_lines names lines None = []
explained_lines names lines (Some told) = image_lines names lines told.image told.missing
