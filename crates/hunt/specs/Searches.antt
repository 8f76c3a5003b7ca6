-- What a search finds.
use Rattle.std.specs.Prelude.{◌≡◌, ◌↔◌, ℕ, ◌+◌, Bool, Option, None, IfSome}
use Rattle.hunt.specs.declared.loss.Loss.{Loss}
use Rattle.hunt.specs.declared.losses.Losses.{Losses}
use Rattle.hunt.specs.declared.search.Search.{Search}
use Rattle.hunt.specs.Crashes.{least_loss, loss_of, losses_among}
use Rattle.hunt.specs.Ends.{EndsAreKept, IsLeastEnd, breaks_end}
use Rattle.hunt.specs.Least.{fails, least_from}
use Rattle.hunt.specs.Losses.{AreSafe, IsLeastLoss, IsSound}

-- the least number of a schedule in whose last state the condition does not hold
abbrev pub least_end : Search → Option ℕ
least_end search = least_from (fails search.plan search.cond search.machine) search.range.first search.range.n

-- the least number of a schedule that comes to an end, after a crash or before the first one, where the condition does not hold
abbrev pub least_broken_end : Bool → Search → Option ℕ
least_broken_end recovered search = least_from (breaks_end recovered search.plan search.cond search.machine) search.range.first search.range.n

-- None is found exactly when the condition is true at each end to which one of the schedules comes.
abbrev pub IsNoneIfKept : Bool → Search → Option ℕ → Type 0
IsNoneIfKept recovered search found =
    (found ≡ None) ↔ EndsAreKept recovered search.plan search.cond search.machine search.range.first (search.range.first + search.range.n)

-- What is found is the least that comes to an end where it is false.
abbrev pub IsLeastIfBroken : Bool → Search → Option ℕ → Type 0
IsLeastIfBroken recovered search found = IfSome found (IsLeastEnd recovered search.plan search.cond search.machine search.range.first search.range.n)

-- the least turn of the schedule of a number after which a crash may leave what breaks the condition, and what does
abbrev pub crash_of : Search → ℕ → Option Loss
crash_of search number = loss_of search.plan search.cond search.machine number

-- the same of the least number of which there is such a turn
abbrev pub least_crash : Search → Option Loss
least_crash search = least_loss search.plan search.cond search.machine search.range.first search.range.n

-- of how many schedules there is such a turn, and the first of them
abbrev pub losses_in : Search → Losses
losses_in search = losses_among search.plan search.cond search.machine search.range.first search.range.n

-- No crash after any turn of any of the schedules leaves a memory that breaks the condition.
abbrev pub AllAreSafe : Search → Type 0
AllAreSafe search = AreSafe search.plan search.cond search.machine search.range.first (search.range.first + search.range.n)

-- The least of the schedules, and in it the least turn, after which a crash may leave a memory that breaks the condition.
abbrev pub IsLeastCrash : Search → Loss → Type 0
IsLeastCrash search loss = IsLeastLoss search.plan search.cond search.machine search.range.first search.range.n loss

-- In a state that a loaded machine can have: none is found exactly when no crash leaves such a memory.
abbrev pub IsNoneIfSafe : Search → Option Loss → Type 0
IsNoneIfSafe search found = IsSound search.machine → (found ≡ None) ↔ AllAreSafe search

-- In a state that a loaded machine can have: what is found is the least.
abbrev pub IsLeastIfSome : Search → Option Loss → Type 0
IsLeastIfSome search found = IsSound search.machine → IfSome found (IsLeastCrash search)
