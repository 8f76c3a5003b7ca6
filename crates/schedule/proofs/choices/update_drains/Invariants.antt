use Rattle.std.proofs.Common.{◌≡◌, length, take}
use Rattle.std.specs.List.{filter}
use Rattle.isa.specs.Loadables.{max_processors}
use Rattle.machine.specs.Accepted.{accepts}
use Rattle.schedule.specs.Choices.{drains_in}
use Rattle.schedule.specs.Enabled.{drains_from}
use Rattle.schedule.proofs.choices.update_drains.Given as goal

abbrev pub invariant-loop-p : goal.invariant-loop-p
invariant-loop-p l = record {
  steps : drains_in 0 (take l.p l.masks) ≡ filter (accepts l.machine) (drains_from 0 (take l.p l.machine.processors));
  each : length l.masks ≡ max_processors;
}
