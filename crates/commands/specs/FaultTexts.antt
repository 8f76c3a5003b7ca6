-- Faults of commands as they are printed.
use Rattle.std.specs.Prelude.{ℕ, List, ◌++◌, codes}
use Rattle.std.specs.Fmt.{decimal}
use Rattle.conditions.specs.Faults as conditions
use Rattle.litmus_text.specs.FaultTexts as texts
use Rattle.loader.specs.Faults as objects
use Rattle.machine.specs.RefusalTexts.{refusal_text}
use Rattle.commands.specs.ScriptFaultTexts as scripts
use Rattle.commands.specs.declared.fault.Device.{Device}
use Rattle.commands.specs.declared.fault.Device.TheVariants.{Read, Write}
use Rattle.commands.specs.declared.fault.Fault.{Fault}
use Rattle.commands.specs.declared.fault.Fault.TheVariants as faults
use Rattle.commands.specs.declared.fault.Missing.{Missing}
use Rattle.commands.specs.declared.fault.Missing.TheVariants.{At, Receipt}
use Rattle.commands.specs.declared.fault.Refused.{Refused}
use Rattle.commands.specs.declared.fault.Refused.TheVariants as refusals
use Rattle.commands.specs.declared.fault.Stage.{Stage}
use Rattle.commands.specs.declared.fault.Stage.TheVariants as stages

-- a device that failed
abbrev pub device_text : Device → List ℕ
device_text Read = codes "F1 ReadFailed"
device_text Write = codes "F2 WriteFailed"

-- an input that is refused
abbrev pub refused_text : Refused → List ℕ
refused_text refusals.TooLong = codes "F3 InputTooLong"
refused_text (refusals.Text fault) = texts.fault_text fault
refused_text (refusals.Object fault) = objects.fault_text fault
refused_text (refusals.Condition fault) = conditions.fault_text fault
refused_text refusals.Usage = codes "usage"
refused_text refusals.TooManySchedules = codes "K1 TooMany"
refused_text refusals.NoFence = codes "K4 NoFence"
refused_text (refusals.Steps line) = codes "S1 BadLine " ++ decimal line
refused_text (refusals.Script fault) = scripts.fault_text fault
refused_text (refusals.Step refusal accepted) = refusal_text refusal ++ codes " at " ++ decimal accepted
refused_text refusals.TooManyImages = codes "I1 TooMany"
refused_text refusals.TooManyStates = codes "R1 TooManyStates"
refused_text refusals.NoRoom = codes "R2 NoRoom"
refused_text refusals.TooManyInRun = codes "I1 TooMany"

-- a stage of which something is missing
abbrev pub stage_text : Stage → List ℕ
stage_text stages.Text = codes "X9 NoMemory"
stage_text stages.Object = codes "O6 NoMemory"
stage_text stages.Conditions = codes "E3 NoMemory"
stage_text stages.Steps = codes "S2 NoMemory"
stage_text stages.Machine = codes "M15 NoMemory"
stage_text stages.Images = codes "I2 NoMemory"
stage_text stages.Exploration = codes "R3 NoMemory"
stage_text stages.Session = codes "G4 NoMemory"
stage_text stages.Schedules = codes "K2 NoMemory"
stage_text stages.Threads = codes "K3 NoThread"
stage_text stages.Journal = codes "V1 NoMemory"

abbrev pub missing_text : Missing → List ℕ
missing_text (At stage) = stage_text stage
missing_text (Receipt number) = codes "V2 Stranger " ++ decimal number

-- the line of a fault
abbrev pub fault_text : Fault → List ℕ
fault_text (faults.Device device) = device_text device
fault_text (faults.Refused refused) = refused_text refused
fault_text (faults.Missing missing) = missing_text missing
