use Rattle.std.proofs.Common.{◌≡◌, ◌+◌, drop, map}
use Rattle.line_forms.specs.FaultPlaces.{name_spot}
use Rattle.line_forms.specs.Slots.{spot_of}
use Rattle.line_forms.proofs.fault_places.name_spot.Given as goal

abbrev pub invariant-loop-index : goal.invariant-loop-index
invariant-loop-index l = l.index + name_spot (map spot_of (drop l.index l.form)) ≡ name_spot (map spot_of l.form)
