-- The operations of the table of kept order.
use Rattle.std.specs.Prelude.{Option, Some, None}
use Rattle.isa.specs.declared.instr.Access.{Access}
use Rattle.isa.specs.declared.instr.Access.TheVariants.{Load, Store, Locked, Flush}
use Rattle.isa.specs.declared.instr.FenceKind.TheVariants.{Mfence, Sfence}
use Rattle.isa.specs.declared.instr.FlushKind.{FlushKind}
use Rattle.isa.specs.declared.instr.FlushKind.TheVariants.{Clflush, Clflushopt, Clwb}
use Rattle.isa.specs.declared.instr.Instr.{Instr}
use Rattle.isa.specs.declared.instr.Instr.TheVariants.{Memory, Fence}
use Rattle.order_table.specs.declared.Kind.{Kind}
use Rattle.order_table.specs.declared.Kind.TheVariants as kinds

-- the kind of a flush
abbrev pub kind_of_flush : FlushKind → Kind
kind_of_flush Clflush = kinds.Flush
kind_of_flush Clflushopt = kinds.FlushOpt
kind_of_flush Clwb = kinds.FlushOpt

-- the kind of an access
abbrev pub kind_of_access : Access → Kind
kind_of_access (Load r) = kinds.Read
kind_of_access (Store source) = kinds.Write
kind_of_access (Locked operation r) = kinds.Rmw
kind_of_access (Flush kind) = kind_of_flush kind

-- the kind of the operation that an instruction is where it does not trap, none for one without memory
abbrev pub operation_of : Instr → Option Kind
operation_of (Memory access operand) = Some (kind_of_access access)
operation_of (Fence Mfence) = Some kinds.Mfence
operation_of (Fence Sfence) = Some kinds.Sfence
operation_of _ = None
