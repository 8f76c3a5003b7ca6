-- Where the steps of `check` come from.
use Rattle.std.proofs.Common.{◌≡◌, Bool, true, false, Option, Some, None}
use Rattle.clap.specs.Words.{Text}
use Rattle.px86.specs.CommandLines.{Finds, IsCheckInput, IsInput}
use Rattle.px86.specs.declared.request.Input.{Input}

-- Where the questions of a program are asked and steps are named, they come from where they do for any command.
pub named : (asks : Bool) (steps : Option Text) (none : Bool) (found : Option Input) (name : Text) → asks ≡ false → steps ≡ Some name
    → Finds (IsInput steps none) found → Finds (IsCheckInput asks steps none) found
named true steps none found name never is so = absurd cc
named false None none found name off is so = absurd cc
named false (Some given) none found name off is so = so
