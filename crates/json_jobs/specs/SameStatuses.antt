-- When a command ends the same with its report as JSON and as text: with the same status, or for the same reason without a report.
use Rattle.std.specs.Prelude.{◌≡◌, Result, Ok, Err, Contains}
use Rattle.commands.specs.declared.fault.Fault.{Fault}
use Rattle.commands.specs.declared.fault.Refused.{Refused}
use Rattle.commands.specs.declared.fault.Stage.{Stage}
use Rattle.commands.specs.declared.status.Status.{Status}
use Rattle.commands.specs.Serving.{Command, Report, Sources}
use Rattle.commands.specs.Works.{Work}

-- the status of what is told, or why it is refused
abbrev pub status_told : Result Report Refused → Result Status Refused
status_told (Ok report) = Ok report.status
status_told (Err refused) = Err refused

-- Two works end alike. Both are refused for the same reason, or their reports have the same status. Something may be missing in the
-- same stages.
pub record EndAlike (json text : Work Report) : Type 0 where
  pub told : status_told json.told ≡ status_told text.told
  pub as_text : (stage : Stage) → Contains json.reached stage → Contains text.reached stage
  pub as_json : (stage : Stage) → Contains text.reached stage → Contains json.reached stage

-- the status of what was made, or the fault
abbrev pub status_made : Result Report Fault → Result Status Fault
status_made (Ok report) = Ok report.status
status_made (Err fault) = Err fault

-- What one command may make of sources, the other may make too, with the same status or the same fault.
abbrev pub MayEndAs : Command → Command → Type 0
MayEndAs one other =
    (both : Sources) (made : Result Report Fault) → one.May both made
    → (also : Result Report Fault) × other.May both also × (status_made also ≡ status_made made)

-- Two commands that may make several reports end alike. Both read steps or neither does, and as the one may end, the other may.
pub record MayEndAlike (json text : Command) : Type 0 where
  pub reads_steps : json.reads_steps ≡ text.reads_steps
  pub as_text : MayEndAs json text
  pub as_json : MayEndAs text json
