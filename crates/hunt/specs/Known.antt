-- What a verdict says of a claim.
use Rattle.std.specs.Prelude.{◌≡◌, ℕ, ◌+◌, ◌<◌, Bool, true, false, Option, Some, None, option_map}
use Rattle.machine.specs.State.{State}
use Rattle.conditions.specs.Formulas.{Formula}
use Rattle.schedule.specs.declared.plan.Plan.{Plan}
use Rattle.hunt.specs.declared.search.Asked.{Asked}
use Rattle.hunt.specs.declared.search.Asked.TheVariants.{Last, Ends, Crashes}
use Rattle.hunt.specs.declared.search.Target.{Target}
use Rattle.hunt.specs.declared.verdict.Verdict.{Verdict}
use Rattle.hunt.specs.declared.verdict.Verdict.TheVariants.{Holds, Fails, Skipped}
use Rattle.hunt.specs.Least.{fails, least, least_from}
use Rattle.hunt.specs.Crashes.{loses}
use Rattle.hunt.specs.Ends.{breaks_end}
use Rattle.hunt.specs.Founds.{found_at, found_of}
use Rattle.hunt.specs.declared.found.Found.{Found}
use Rattle.hunt.specs.declared.search.Search.{Search}
use Rattle.hunt.specs.declared.seats.Board.{Board}
use Rattle.hunt.specs.Seats.{limit_of}

-- whether a schedule breaks the condition: in its last state, in an end to which it comes, or by what a crash may leave in some of its states
abbrev pub breaks_in : Asked → Plan → Formula → State → ℕ → Bool
breaks_in Last plan condition start number = fails plan condition start number
breaks_in (Ends recovered) plan condition start number = breaks_end recovered plan condition start number
breaks_in Crashes plan condition start number = loses plan condition start number

-- whether the schedule of a number is one that is looked for
abbrev pub is_target : Target → ℕ → Bool
is_target target number = breaks_in target.asked target.search.plan target.search.cond target.search.machine number

-- the same of the schedule of a claim: claim k is of the schedule with the number first + k
abbrev pub breaks : Target → ℕ → Bool
breaks target claim = is_target target (target.search.range.first + claim)

-- It is looked for in this search, where the condition is asked as here.
abbrev pub IsTargetOf : Search → Asked → Target → Type 0
IsTargetOf search asked target = (target.search ≡ search) × (target.asked ≡ asked)

-- what is found of the least claim below a limit that is one of these
abbrev pub least_target : Target → ℕ → Option Found
least_target target limit = option_map (found_at target.asked target.search) (option_map (λ claim. target.search.range.first + claim) (least (breaks target) limit))

-- what is found of the least claim of a board
abbrev pub told_by : Board → Target → Option Found
told_by board target = least_target target (limit_of board)

-- the least number of the range whose schedule breaks the condition where it is asked
abbrev pub least_number : Asked → Search → Option ℕ
least_number asked search = least_from (breaks_in asked search.plan search.cond search.machine) search.range.first search.range.n

-- what is found of it
abbrev pub least_found : Asked → Search → Option Found
least_found asked search = option_map (found_at asked search) (least_number asked search)

-- Of the schedule of a number this is told: that it does not break the condition, or what is found of it.
abbrev pub IsTold : Target → ℕ → Option Found → Type 0
IsTold target number None = is_target target number ≡ false
IsTold target number (Some found) = (is_target target number ≡ true) × (found ≡ found_at target.asked target.search number)

-- A verdict on a claim is right, where the least number that was reported is this bound or less.
abbrev pub IsKnown : Target → ℕ → ℕ → Verdict → Type 0
IsKnown target claim bound Holds = breaks target claim ≡ false
IsKnown target claim bound (Fails found) = (breaks target claim ≡ true) × (found ≡ found_of target claim)
IsKnown target claim bound Skipped = bound < claim
