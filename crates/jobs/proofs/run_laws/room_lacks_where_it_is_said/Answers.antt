use Rattle.jobs.proofs.RoomLacks.{room_lacks}
use Rattle.jobs.proofs.run_laws.room_lacks_where_it_is_said.Goals as goal

pub returns : goal.returns
returns g c = λ asked. room_lacks (g.A.ReportsVerdict.may_report asked)
