use Rattle.std.proofs.Common.{◌≡◌, map, take}
use Rattle.image_reasons.specs.Repairs.{led_on}
use Rattle.image_reasons.proofs.insertion.all_led_on.Given as goal

abbrev pub invariant-loop-at : goal.invariant-loop-at
invariant-loop-at l = l.code.items ≡ map (led_on l.place) (take l.at l.program)
