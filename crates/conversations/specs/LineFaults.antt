-- Why a line asks nothing: what is printed of it.
use Rattle.std.specs.Prelude.{ℕ, List, codes}
use Rattle.conditions.specs.Faults as conditions
use Rattle.conversations.specs.declared.line_fault.LineFault.{LineFault}
use Rattle.conversations.specs.declared.line_fault.LineFault.TheVariants.{BadLine, Condition}

-- number and name; of a condition also the number of its token
abbrev pub line_fault_text : LineFault → List ℕ
line_fault_text BadLine = codes "S1 BadLine"
line_fault_text (Condition fault) = conditions.fault_text fault
