-- What is asked of the images of a state.
use Rattle.std.specs.Prelude.{ℕ, Bool, Option, Some, None, List}
use Rattle.std.specs.List.{filter}
use Rattle.lines_layout.specs.Names.{Text}
use Rattle.litmus_text.specs.declared.text_lines.LinedObject.{LinedObject}
use Rattle.images.specs.Images.{closed_set_of, images_of}
use Rattle.images.specs.Truth.{fails_on}
use Rattle.image_reasons.specs.declared.missing.Missing.{Missing}
use Rattle.image_reasons.specs.Reasons.{missing_after}
use Rattle.machine.specs.State.{State}
use Rattle.machine.specs.declared.step.Step.{Step}
use Rattle.conditions.specs.Formulas.{Formula}
use Rattle.pending_images.specs.declared.total.Count.{Count}
use Rattle.pending_images.specs.declared.total.Count.TheVariants.{Number, More}
use Rattle.commands.specs.ImageTexts.{images_text}
use Rattle.commands.specs.MissingTexts.{image_lines}
use Rattle.jobs.specs.ImageReports.{all_text, candidates_text, count_in, counterexample, set_text}

-- whether a condition holds for all images, by the first for which it does not; where there are more candidates than are counted, only that
abbrev pub all_on : State → Formula → Count → Text
all_on s cond (Number n) = all_text (Some (counterexample s cond))
all_on s cond More = candidates_text More

-- the same of a state, whose candidates are counted
abbrev pub all_of : State → Formula → Text
all_of s cond = all_on s cond (count_in s)

-- which pending entries leave an image, as `images --set` says it
abbrev pub set_of : State → List ℕ → Text
set_of s image = set_text (closed_set_of s image)

-- whether a condition does not hold for an image of the state
unfoldable pub breaks : State → Formula → List ℕ → Bool
breaks s cond image = fails_on s cond image

-- the images for which a condition does not hold, and how many they are; where there are more candidates than are counted, only that
abbrev pub broken_on : State → Formula → Count → Text
broken_on s cond (Number n) = images_text (filter (breaks s cond) (images_of s))
broken_on s cond More = candidates_text More

-- the same of a state, whose candidates are counted
abbrev pub broken_of : State → Formula → Text
broken_of s cond = broken_on s cond (count_in s)

-- what is said of an image in which these writes are missing: its words by name, these writes, and why each may be missing; or that it is none
abbrev pub told_of : LinedObject → List ℕ → Option (List Missing) → Text
told_of lined image None = set_text None
told_of lined image (Some missing) = image_lines lined.object.layout lined.lines image (Some missing)

-- the same of an image of the state to which these steps of a program lead
abbrev pub why_of : LinedObject → List Step → List ℕ → Text
why_of lined steps image = told_of lined image (missing_after lined.object steps image)
