-- How many schedules there may be.
use Rattle.std.specs.Prelude.{ℕ}
use Rattle.workers.specs.Limits.{max_numbers}

-- how many numbers of schedules there are
abbrev pub max_schedules : ℕ
max_schedules = max_numbers
