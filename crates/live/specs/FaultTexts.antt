-- Why a live machine is not closed, as reports print it.
use Rattle.std.specs.Prelude.{ℕ, List, ◌++◌, codes, decimal}
use Rattle.live.specs.declared.fault.CloseRefusal.{CloseRefusal}
use Rattle.live.specs.declared.fault.CloseRefusal.TheVariants.{Stranger, MissingSeat}

-- number and name, and the number of a receipt that is not in the journal
abbrev pub close_refusal_text : CloseRefusal → List ℕ
close_refusal_text (Stranger receipt shown) = codes "V2 Stranger " ++ decimal receipt.number
close_refusal_text MissingSeat = codes "V3 MissingSeat"
