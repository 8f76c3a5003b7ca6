-- What is reported of a pair of operations that breaks the order of the table.
use Rattle.std.specs.Prelude.{ℕ, Option, Some, None, List, ◌++◌, codes, decimal}
use Rattle.machine.specs.declared.trace_law.Pair.{Pair}

-- broken CPU FIRST SECOND AT
abbrev pub broken_text : Pair → List ℕ
broken_text pair =
    codes "broken " ++ decimal pair.cpu ++ codes " " ++ decimal pair.first ++ codes " " ++ decimal pair.second ++ codes " " ++ decimal pair.at ++ codes "\n"

-- the pair that was found, or that there is none
abbrev pub pair_text : Option Pair → List ℕ
pair_text (Some pair) = broken_text pair
pair_text None = codes "none\n"
