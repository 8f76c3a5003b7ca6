use Rattle.debug_scripts.proofs.RepliesAreTheReport.{text_of_replies}
use Rattle.debug_scripts.specs.DebugReports.{prepared}
use Rattle.debug_scripts.specs.DebugPlans.{stop_ordered, watch_ordered}
use Rattle.std.proofs.Common.{map}
use Rattle.debug_scripts.proofs.laws.reports_are_replies.Goals as goal

pub returns : goal.returns
returns c = λ p. text_of_replies p.layout (prepared p.machine (map stop_ordered p.script.stops) (map watch_ordered p.script.watches)) p.script.commands
