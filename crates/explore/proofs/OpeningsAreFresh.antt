-- A loaded machine's processors run their main programs.
use Rattle.std.proofs.Common.{◌≡◌, false, true, List, [], ◌∷◌, map, refl}
use Rattle.isa.specs.Objects.{Object}
use Rattle.isa.specs.declared.programs.Programs.{Programs}
use Rattle.machine.specs.Objects.{opening, opening_processor}
use Rattle.explore.specs.Ends.{all_run_as}

all_fresh : (processors : List Programs) → all_run_as false (map opening_processor processors) ≡ true
all_fresh [] = refl
all_fresh (p ∷ processors) = all_fresh processors

pub opening_fresh : (o : Object) → all_run_as false (opening o).processors ≡ true
opening_fresh o = all_fresh o.processors
