-- Faults of scripts as reports print them.
use Rattle.std.specs.Prelude.{ℕ, List, ◌++◌, codes}
use Rattle.std.specs.Fmt.{decimal}
use Rattle.conditions.specs.Faults as conditions
use Rattle.commands.specs.declared.script_fault.ScriptFault.{ScriptFault}
use Rattle.commands.specs.declared.script_fault.ScriptFault.TheVariants.{BadLine, Condition, DoubleId}

abbrev pub fault_text : ScriptFault → List ℕ
fault_text (BadLine n) = codes "S1 BadLine " ++ decimal n
fault_text (Condition fault) = conditions.fault_text fault
fault_text DoubleId = codes "G1 DoubleId"
