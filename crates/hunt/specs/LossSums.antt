-- Losses of numbers that follow one another.
use Rattle.std.specs.Prelude.{◌≡◌, ℕ, ◌+◌, Option, None, Some, map, fold}
use Rattle.std.specs.List.{range_with_len}
use Rattle.std.specs.Option.{option_or}
use Rattle.machine.specs.State.{State}
use Rattle.schedule.specs.declared.plan.Plan.{Plan}
use Rattle.conditions.specs.Formulas.{Formula}
use Rattle.hunt.specs.Crashes.{loss_of}
use Rattle.hunt.specs.declared.loss.Loss.{Loss}
use Rattle.hunt.specs.declared.losses.Losses.{Losses}
use Rattle.hunt.specs.declared.search.Search.{Search}

-- no schedule breaks the condition
abbrev pub no_losses : Losses
no_losses = record { broken = 0; first = None }

-- those of one schedule
abbrev pub one_loss : Option Loss → Losses
one_loss None = no_losses
one_loss (Some loss) = record { broken = 1; first = Some loss.at }

-- those of numbers, and then those of the numbers after them
abbrev pub both : Losses → Losses → Losses
both some later = record { broken = some.broken + later.broken; first = option_or some.first later.first }

-- those of so many schedules, of which the first has this number
abbrev pub losses_from : Plan → Formula → State → ℕ → ℕ → Losses
losses_from plan condition start first count = fold both no_losses (map (λ number. one_loss (loss_of plan condition start number)) (range_with_len first count))

-- They are those of so many schedules of a search, of which the first has this number.
abbrev pub AreLosses : Search → ℕ → ℕ → Losses → Type 0
AreLosses search first count losses = losses ≡ losses_from search.plan search.cond search.machine first count
