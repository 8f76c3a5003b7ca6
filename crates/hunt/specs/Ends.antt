-- Schedules that come to an end. What an end is, `explore/specs/Ends` says: each processor has nothing left to do, and nothing is pending.
use Rattle.std.specs.Prelude.{◌≡◌, ℕ, ◌+◌, ◌<◌, ◌≤◌, Bool, true, false, ◌&&◌, ◌==◌, Option, Some, None, length, count_by, if◌then◌else◌}
use Rattle.std.specs.List.{range_with_len}
use Rattle.std.specs.Option.{option_or}
use Rattle.machine.specs.State.{State}
use Rattle.conditions.specs.Formulas.{Formula}
use Rattle.schedule.specs.declared.plan.Plan.{Plan}
use Rattle.schedule.specs.Schedules.{end_of}
use Rattle.explore.specs.Ends.{IsEnd, IsEndOf, all_run_as, holds_at}
use Rattle.explore.specs.Explored.{have_ended}
use Rattle.hunt.specs.Least.{fails, least_from}
use Rattle.hunt.specs.declared.end_counts.EndCounts.{EndCounts}
use Rattle.hunt.specs.declared.search.Search.{Search}

-- whether a state is an end, after a crash or before the first one
abbrev pub is_end : Bool → State → Bool
is_end recovered s = have_ended recovered s && (length s.memory.pending == 0)

-- The same in the words of `check`.
pub record IsEndAs (recovered : Bool) (s : State) : Type 0 where
  pub end : IsEnd s
  pub mode : all_run_as recovered s.processors ≡ true

-- whether the schedule of a number comes to such an end: its last state is one
abbrev pub comes_to_end : Bool → Plan → State → ℕ → Bool
comes_to_end recovered plan start number = is_end recovered (end_of plan number start)

-- whether it comes to one at which the condition is false
abbrev pub breaks_end : Bool → Plan → Formula → State → ℕ → Bool
breaks_end recovered plan condition start number = comes_to_end recovered plan start number && fails plan condition start number

-- The schedule of a number comes to an end that a run reaches, and the condition is false there.
pub record BreaksEnd (recovered : Bool) (plan : Plan) (condition : Formula) (start : State) (number : ℕ) : Type 0 where
  pub end : IsEndOf true recovered start (end_of plan number start)
  pub fails : holds_at condition (end_of plan number start) ≡ false

-- Where one of the schedules from `first` on and below `end` comes to such an end, the condition is true there.
abbrev pub EndsAreKept : Bool → Plan → Formula → State → ℕ → ℕ → Type 0
EndsAreKept recovered plan condition start first end =
    (number : ℕ) → first ≤ number → number < end → IsEndAs recovered (end_of plan number start) → holds_at condition (end_of plan number start) ≡ true

-- The least of the n schedules from `first` on that comes to such an end where the condition is false.
pub record IsLeastEnd (recovered : Bool) (plan : Plan) (condition : Formula) (start : State) (first n number : ℕ) : Type 0 where
  pub from : first ≤ number
  pub below : number < first + n
  pub breaks : BreaksEnd recovered plan condition start number
  pub before : EndsAreKept recovered plan condition start first number

-- how many of the n schedules from this number on come to such an end, how many of these break the condition, and the first of them
abbrev pub ends_among : Bool → Plan → Formula → State → ℕ → ℕ → EndCounts
ends_among recovered plan condition start first n = record {
  ended = count_by (comes_to_end recovered plan start) (range_with_len first n);
  broken = count_by (breaks_end recovered plan condition start) (range_with_len first n);
  first = least_from (breaks_end recovered plan condition start) first n;
}

-- one schedule, which comes to an end or does not, and breaks the condition there or does not
abbrev pub one_end : Bool → Bool → ℕ → EndCounts
one_end ended broken number = record {
  ended = if ended then 1 else 0;
  broken = if broken then 1 else 0;
  first = if broken then Some number else None;
}

-- those of numbers, and then those of the numbers after them
abbrev pub both_ends : EndCounts → EndCounts → EndCounts
both_ends some later = record { ended = some.ended + later.ended; broken = some.broken + later.broken; first = option_or some.first later.first }

-- those of a search
abbrev pub ends_in : Bool → Search → EndCounts
ends_in recovered search = ends_among recovered search.plan search.cond search.machine search.range.first search.range.n

-- They are those of so many schedules of a search, of which the first has this number.
abbrev pub AreEnds : Bool → Search → ℕ → ℕ → EndCounts → Type 0
AreEnds recovered search first n counts = counts ≡ ends_among recovered search.plan search.cond search.machine first n
