-- The written form of steps.
use Rattle.std.specs.Prelude.{ℕ, ◌<◌, ◌^◌, List, [], ◌∷◌, ◌++◌, codes}
use Rattle.std.specs.Fmt.{decimal}
use Rattle.std.specs.List.{AllByRecursion, flat_map}
use Rattle.machine.specs.declared.step.Step.{Step}
use Rattle.machine.specs.declared.step.Step.TheVariants.{Exec, Drain, Persist, Settle, Crash}
use Rattle.text_tokens.specs.Text.{line_feed}

-- a step, with one space between its tokens
abbrev pub written : Step → List ℕ
written (Exec p) = codes "exec " ++ decimal p
written (Drain p i) = codes "drain " ++ decimal p ++ codes " " ++ decimal i
written (Persist line) = codes "persist " ++ decimal line
written Settle = codes "settle"
written Crash = codes "crash"

-- the line of a step
abbrev pub written_line : Step → List ℕ
written_line step = written step ++ line_feed ∷ []

-- the lines of steps
abbrev pub steps_text : List Step → List ℕ
steps_text steps = flat_map written_line steps

-- a step whose numbers are those of a text's steps
abbrev pub IsWritable : Step → Type 0
IsWritable (Exec p) = p < 2 ^ 32
IsWritable (Drain p i) = (p < 2 ^ 32) × (i < 2 ^ 32)
IsWritable (Persist line) = line < 2 ^ 32
IsWritable Settle = Unit {0}
IsWritable Crash = Unit {0}

-- all of them are
abbrev pub AreWritable : List Step → Type 0
AreWritable steps = AllByRecursion IsWritable steps
