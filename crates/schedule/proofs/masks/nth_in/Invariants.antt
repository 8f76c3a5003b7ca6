use Rattle.std.proofs.Common.{◌≡◌, drop}
use Rattle.schedule.specs.Masks.{numbers_in}
use Rattle.schedule.proofs.masks.nth_in.Given as goal

abbrev pub invariant-loop-taken : goal.invariant-loop-taken
invariant-loop-taken l = numbers_in l.higher ≡ drop l.taken (numbers_in l.mask)
