use Rattle.std.proofs.Common.{◌≡◌, map, false, true}
use Rattle.debugger.specs.Stops.{armed}
use Rattle.debugger.specs.Sessions.{session, watch}
use Rattle.debug_scripts.specs.DebugReports.{HasShape}
use Rattle.talks.specs.Conversations.{Converses}
use Rattle.talks.proofs.TurnsInTurn.{GoesOn}
use Rattle.conversations.specs.Answered.{first_place, partner, place}
use Rattle.conversations.specs.Turning.{ended, is_more}
use Rattle.conversations.proofs.TurnsMade.{turns_left}
use Rattle.conversations.proofs.turns.talk.OwnLists.{own-2}
use Rattle.conversations.proofs.turns.talk.Given as goal

-- the boxes of this function are entries of its own table
abbrev pub invariant-loop-turn : goal.invariant-loop-turn
invariant-loop-turn g l =
    let now = session l.session.past (map (λ t. armed t.id t.cond) l.session.stops.items) (map (λ w. watch w.id ((own-2.entry w.watcher.vtable).1.meaning_of w.watcher.value)) l.session.watchers.items) in
    record {
      so : is_more l.turn ≡ true → GoesOn (partner l.lined) (g.T.Terminal.went l.initial.terminal l.terminal) (first_place l.fn.machine) (place now l.desk.ahead l.desk.declared.items) l.left;
      over : is_more l.turn ≡ false → Converses (partner l.lined) (g.T.Terminal.went l.initial.terminal l.terminal) (first_place l.fn.machine) (place now l.desk.ahead l.desk.declared.items) (ended l.turn);
      ready : is_more l.turn ≡ true → g.T.Terminal.is_ready l.terminal;
      shape : is_more l.turn ≡ true → HasShape l.lined.object.layout now;
    }

abbrev pub decreases-loop-turn : goal.decreases-loop-turn
decreases-loop-turn g l = turns_left l.turn l.left
