use Rattle.std.proofs.Common.{rules, ◌≤◌, ◌<◌, ◌+◌, length, subst}
use Rattle.machine.specs.Limits.{max_turns}
use Rattle.machine.specs.State.{State}
use Rattle.explore.specs.declared.fault.ExploreFault.TheVariants.{NoRoom}
use Rattle.explore.specs.declared.visit.Stop.TheVariants.{Untold}
use Rattle.explore.specs.Questions.{most_turns_before}
use Rattle.explore.specs.Visits.{IsStop}
use Rattle.explore.proofs.Stops.{stop_turns}
use Rattle.explore.proofs.visit.lacks_turns.Goals as goal

pub returns-clause-some : goal.returns-clause-some
returns-clause-some c = λ lacks q.
    let s = c.view-view.result in
    let path = c.args.node.now.path in
    let short : length path + length s.memory.pending < most_turns_before = search rules in
    let spent : max_turns ≤ s.turns + length s.memory.pending = search rules in
    subst (λ (x : State). IsStop q x path (Untold NoRoom)) c.view-view.ensures (stop_turns q s path short spent)
