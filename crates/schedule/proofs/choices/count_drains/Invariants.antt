use Rattle.std.proofs.Common.{◌≡◌, ◌≤◌, ◌*◌, length, take}
use Rattle.schedule.specs.Choices.{drains_in}
use Rattle.schedule.specs.Masks.{mask_room}
use Rattle.schedule.proofs.choices.count_drains.Given as goal

abbrev pub invariant-loop-mask : goal.invariant-loop-mask
invariant-loop-mask l = record {
  value : l.count ≡ length (drains_in 0 (take l.mask-index l.masks));
  most : l.count ≤ l.mask-index * mask_room;
}
