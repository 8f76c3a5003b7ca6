-- What is asked of every crash.
use Rattle.std.specs.Prelude.{true, false, Some, None}
use Rattle.px86_machine.specs.Conditions.{Formula}
use Rattle.px86_machine.specs.EveryRun.{Question}

-- that each image that a crash may leave keeps a rule, in each state that runs reach, with any number of crashes; nothing is asked of ends
abbrev pub every_crash : Formula → Question
every_crash rule = record { crashes = true; all = Some rule; ends = None; recovered = None; images = false }
