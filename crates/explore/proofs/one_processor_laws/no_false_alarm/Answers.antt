use Rattle.explore.proofs.MachineFollows.{machine_can_leave}
use Rattle.explore.proofs.RoomIsLeft.{never_full}
use Rattle.explore.proofs.one_processor_laws.no_false_alarm.Goals as goal

pub returns-clause-happens : goal.returns-clause-happens
returns-clause-happens c = machine_can_leave

pub returns-clause-has_room : goal.returns-clause-has_room
returns-clause-has_room c = never_full
