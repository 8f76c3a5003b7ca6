-- Limits that several crates share.
use Rattle.std.specs.Prelude.{ℕ, ◌<◌, ◌≤◌, ◌^◌}

-- how many threads may share a board or a machine at most, each with a seat
abbrev pub max_seats : ℕ
max_seats = 64

-- how many numbers of schedules there are
abbrev pub max_numbers : ℕ
max_numbers = 2 ^ 32

-- at least one shares the work, and no more than there may be seats
abbrev pub MayShare : ℕ → Type 0
MayShare n = (0 < n) × (n ≤ max_seats)
