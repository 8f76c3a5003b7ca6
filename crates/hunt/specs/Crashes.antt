-- Which memory a crash may leave that breaks a condition, after each turn of a schedule.
use Rattle.std.specs.Prelude.{ℕ, ◌+◌, Bool, not, Option, Some, option_map, option_and_then, is_some, List, length, take, find, count_by}
use Rattle.std.specs.List.{range_with_len}
use Rattle.machine.specs.State.{State}
use Rattle.machine.specs.Steps.{run_of}
use Rattle.schedule.specs.declared.plan.Plan.{Plan}
use Rattle.schedule.specs.Schedules.{schedule_of}
use Rattle.conditions.specs.Formulas.{Formula}
use Rattle.pending_images.specs.Candidates.{candidates, count_of}
use Rattle.pending_images.specs.declared.total.Count.{Count}
use Rattle.pending_images.specs.declared.total.Count.TheVariants.{Number, More}
use Rattle.images.specs.Images.{images_of}
use Rattle.images.specs.Truth.{holds_on}
use Rattle.hunt.specs.Least.{least, least_from}
use Rattle.hunt.specs.declared.loss.Breach.{Breach}
use Rattle.hunt.specs.declared.loss.Breach.TheVariants.{Leaves, TooMany}
use Rattle.hunt.specs.declared.loss.Loss.{Loss}
use Rattle.hunt.specs.declared.losses.Losses.{Losses}

-- more candidates than are counted, or else the image that was found
abbrev pub breach_by : Count → Option (List ℕ) → Option Breach
breach_by More found = Some TooMany
breach_by (Number n) found = option_map Leaves found

-- what breaks a condition in a state: that it has too many candidates, or else its least image that makes the condition false
abbrev pub broken_in : Formula → State → Option Breach
broken_in condition s = breach_by (count_of (candidates s.memory.pending)) (find (λ image. not (holds_on s condition image)) (images_of s))

-- the state of a schedule after its first t turns
abbrev pub state_at : Plan → State → ℕ → ℕ → State
state_at plan start number t = (run_of (take t (schedule_of plan number start).steps) start).state

-- how many states a schedule has: the one from which it runs, and one after each turn that it makes
abbrev pub states_of : Plan → State → ℕ → ℕ
states_of plan start number = length (schedule_of plan number start).steps + 1

-- whether the state after t turns breaks the condition
abbrev pub is_broken_at : Plan → Formula → State → ℕ → ℕ → Bool
is_broken_at plan condition start number t = is_some (broken_in condition (state_at plan start number t))

-- the least turn after which a schedule breaks the condition
abbrev pub least_turn : Plan → Formula → State → ℕ → Option ℕ
least_turn plan condition start number = least (is_broken_at plan condition start number) (states_of plan start number)

-- whether a schedule breaks the condition after some turn
abbrev pub loses : Plan → Formula → State → ℕ → Bool
loses plan condition start number = is_some (least_turn plan condition start number)

-- a schedule, its least turn, and what breaks the condition there
abbrev pub loss_at : Plan → Formula → State → ℕ → ℕ → Option Loss
loss_at plan condition start number t =
    option_map (λ breach. record { at = record { number = number; turn = t }; breach = breach }) (broken_in condition (state_at plan start number t))

abbrev pub loss_of : Plan → Formula → State → ℕ → Option Loss
loss_of plan condition start number = option_and_then (loss_at plan condition start number) (least_turn plan condition start number)

-- the same of the first that breaks the condition of the n schedules from this number on
abbrev pub least_loss : Plan → Formula → State → ℕ → ℕ → Option Loss
least_loss plan condition start first n = option_and_then (loss_of plan condition start) (least_from (loses plan condition start) first n)

-- how many of the n schedules from this number on break the condition, and the first of them, with its least turn
abbrev pub losses_among : Plan → Formula → State → ℕ → ℕ → Losses
losses_among plan condition start first n = record {
  broken = count_by (loses plan condition start) (range_with_len first n);
  first = option_map (λ (loss : Loss). loss.at) (least_loss plan condition start first n);
}
