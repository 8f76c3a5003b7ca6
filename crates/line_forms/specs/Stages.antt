-- Where the reading of a litmus text is before a line.
use Rattle.std.specs.Prelude.{ℕ, Bool, false, not, ◌&&◌, if◌then◌else◌, List, [], ◌∷◌, bytes_eq, codes}
use Rattle.std.specs.List.{fold}
use Rattle.text_tokens.specs.Text.{tokens_of}
use Rattle.line_forms.specs.Places.{lines_above}
use Rattle.text_tokens.specs.Cursors.{Token}
use Rattle.line_forms.specs.declared.stages.Stage.{Stage}
use Rattle.line_forms.specs.declared.stages.Stage.TheVariants.{Opening, Data, Main, Recovery, Between}

-- the second token is :
abbrev pub has_colon : List Token → Bool
has_colon [] = false
has_colon (first ∷ []) = false
has_colon (first ∷ second ∷ tokens) = bytes_eq second (codes ":")

-- the stage after a line of these tokens that has no fault, and is no label line within a program
abbrev pub stage_behind : Stage → Token → Bool → Stage
stage_behind Opening first colon = Data
stage_behind Data first colon = if bytes_eq first (codes "cpu") then Main else Data
stage_behind Main first colon = if bytes_eq first (codes "recover") && not colon then Recovery else if bytes_eq first (codes "end") && not colon then Between else Main
stage_behind Recovery first colon = if bytes_eq first (codes "end") && not colon then Between else Recovery
stage_behind Between first colon = if bytes_eq first (codes "cpu") then Main else Between

-- the stage after a line that has no fault; a line without tokens changes nothing
abbrev pub stage_after : Stage → List Token → Stage
stage_after stage [] = stage
stage_after stage (first ∷ tokens) = stage_behind stage first (has_colon (first ∷ tokens))

-- the stage before the line of this number, from 1
abbrev pub stage_before : List ℕ → ℕ → Stage
stage_before text number = fold (λ stage line. stage_after stage (tokens_of line)) Opening (lines_above text number)
