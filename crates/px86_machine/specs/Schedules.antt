-- Words for clauses that speak of numbered schedules.
pub use Rattle.schedule.specs.Ranges.{max_schedules}
pub use Rattle.schedule.specs.StepTexts.{bad_line_in, steps_of}
pub use Rattle.schedule.specs.Schedules.{Schedule, schedule_of}
pub use Rattle.hunt.specs.Outcomes.{Observed, observed, outcome_of}
pub use Rattle.hunt.specs.Tallies.{tally_from}
pub use Rattle.hunt.specs.Least.{IsLeastFrom, fails, least_from}
pub use Rattle.hunt.specs.Crashes.{least_loss, loss_of, losses_among}
pub use Rattle.hunt.specs.Ends.{EndsAreKept, IsEndAs, IsLeastEnd, breaks_end, comes_to_end, ends_among, ends_in, is_end}
pub use Rattle.hunt.specs.Losses.{AreSafe, IsLeastLoss, IsSound}
pub use Rattle.hunt.specs.Searches.{AllAreSafe, IsLeastCrash, crash_of, least_broken_end, least_crash, least_end, losses_in}
