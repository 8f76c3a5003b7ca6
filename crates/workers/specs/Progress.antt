-- How far the work on many numbers is, and how fast it goes on.
use Rattle.std.specs.Prelude.{ℕ, ◌+◌, ◌-◌, ◌*◌, ◌/◌, ◌<◌, ◌≤◌, ◌==◌, Bool, ◌&&◌, ◌||◌, Option, Some, None, if◌then◌else◌, count_by, nat_lt, nat_le}
use Rattle.std.specs.List.{range_with_len}
use Rattle.workers.specs.declared.progress.Pace.{Pace}

-- in how many parts of equal size all is seen
abbrev pub parts : ℕ
parts = 16

-- how many whole parts of all are done
abbrev pub parts_done : ℕ → ℕ → ℕ
parts_done done all = parts * done / all

-- whether the last of so many that are done, of all, completes a part
abbrev pub completes_part : ℕ → ℕ → Bool
completes_part done all = nat_le done all && nat_lt (parts_done (done - 1) all) (parts_done done all)

-- how many of the counts from 1 to all complete a part
abbrev pub completed_parts : ℕ → ℕ
completed_parts all = count_by (λ done. completes_part done all) (range_with_len 1 all)

-- a second, in nanoseconds
abbrev pub second : ℕ
second = 1000000000

-- How many are done in a second, where so many of all are done after so many nanoseconds; and how many seconds the others
-- take at that pace. None where nothing is done, or no time has gone.
abbrev pub pace_of : ℕ → ℕ → ℕ → Option Pace
pace_of done all nanos =
    if done == 0 || nanos == 0 then None
    else Some (record { each_second = done * second / nanos; seconds_left = (all - done) * nanos / (done * second) })

-- So many each second are no more than are done, and one more each second would be.
abbrev pub IsRate : ℕ → ℕ → ℕ → Type 0
IsRate done nanos each_second = (each_second * nanos ≤ done * second) × (done * second < (each_second + 1) * nanos)

-- If each of the others takes as long as those that are done took, they take at least so many seconds, and less than one more.
abbrev pub IsTimeLeft : ℕ → ℕ → ℕ → ℕ → Type 0
IsTimeLeft done left nanos seconds = (seconds * (done * second) ≤ left * nanos) × (left * nanos < (seconds + 1) * (done * second))

-- It is the pace of what is done.
abbrev pub IsPace : ℕ → ℕ → ℕ → Pace → Type 0
IsPace done all nanos pace = IsRate done nanos pace.each_second × IsTimeLeft done (all - done) nanos pace.seconds_left
