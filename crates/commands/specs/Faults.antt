-- Why a command was not done, where a call of one of its stages answers an error.
use Rattle.outcomes.specs.declared.or_no_memory.OrNoMemory.{OrNoMemory}
use Rattle.outcomes.specs.declared.or_no_memory.OrNoMemory.TheVariants as errors
use Rattle.commands.specs.declared.transfer.ReadFault.{ReadFault}
use Rattle.commands.specs.declared.transfer.ReadFault.TheVariants as read_faults
use Rattle.commands.specs.declared.fault.Stage.{Stage}
use Rattle.commands.specs.declared.fault.Fault.{Fault}
use Rattle.commands.specs.declared.fault.Fault.TheVariants as faults
use Rattle.commands.specs.declared.fault.Device.TheVariants as failing
use Rattle.commands.specs.declared.fault.Refused.{Refused}
use Rattle.commands.specs.declared.fault.Refused.TheVariants as refusals
use Rattle.commands.specs.declared.fault.Missing.{Missing}
use Rattle.commands.specs.declared.fault.Missing.TheVariants as wants
use Rattle.commands.specs.declared.fault.Stage.TheVariants as stages

-- F1: a read failed, or a file could not be opened
abbrev pub read_failed : Fault
read_failed = faults.Device failing.Read

-- F2: a write failed, or took no byte
abbrev pub write_failed : Fault
write_failed = faults.Device failing.Write

-- what the stage takes is missing
abbrev pub missing : Stage → Fault
missing stage = faults.Missing (wants.At stage)

-- the call refuses the input, or memory runs out
abbrev pub fault_at : Stage → OrNoMemory Refused → Fault
fault_at stage (errors.Fault refused) = faults.Refused refused
fault_at stage errors.NoMemory = missing stage

-- a source is not read whole
abbrev pub unread_at : Stage → OrNoMemory ReadFault → Fault
unread_at stage (errors.Fault read_faults.Failed) = read_failed
unread_at stage (errors.Fault read_faults.TooLong) = faults.Refused refusals.TooLong
unread_at stage errors.NoMemory = missing stage

-- the stage of which something is missing: receipts are in the journal
abbrev pub stage_of : Missing → Stage
stage_of (wants.At stage) = stage
stage_of (wants.Receipt number) = stages.Journal
