use Rattle.std.proofs.Common.{[], Ok, Err, false, map, refl, sym, ◌∙◌}
use Rattle.talks.specs.Conversations.{Turns, max_heard, unopened}
use Rattle.talks.specs.declared.fault.TalkFault.TheVariants as faults
use Rattle.debugger.specs.Stops.{armed}
use Rattle.debugger.specs.Sessions.{session, watch}
use Rattle.conversations.specs.Answered.{partner, place}
use Rattle.conversations.proofs.TurnsMade.{begins, check_answered, first_shape, line_unanswered, now_over, on_more, other_answered, shape_kept, still_going, stop_answered, turns_fall, watch_answered}
use Rattle.conversations.proofs.turns.talk.OwnLists.{own-2}
use Rattle.conversations.proofs.turns.talk.Given.{Over}
use Rattle.conversations.proofs.turns.talk.Goals as goal

pub returns-in_default : goal.returns-in_default
returns-in_default g c = (_, record { lines = []; middle = tt; left = max_heard; limit = refl; last = []; went = g.met.T.Terminal.nothing _; ends = unopened })

pub loop-turn-init : goal.loop-turn-init
loop-turn-init g c = record {
  so = λ e. begins g.T.Terminal.went g.met.T.Terminal.nothing g.met.T.Terminal.both c.args.lined.now c.args.terminal.now c.args.machine _ c.new-desk.result.ahead c.new-desk.result.declared.items c.in-Ok.ensures.opened c.new-desk.ensures.ahead c.new-desk.ensures.declared;
  over = λ e. absurd (cc);
  ready = λ e. c.requires.ready;
  shape = λ e. first_shape c.args.lined.now.object.layout _ c.args.machine c.in-Ok.ensures.opened c.requires.shape;
}

pub loop-turn-preserved : goal.loop-turn-preserved
loop-turn-preserved g c = record {
  so = λ e. absurd (cc);
  over = λ e. now_over g.T.Terminal.went g.met.T.Terminal.nothing g.met.T.Terminal.both c.args.lined.now _ _ _ _ _ _ c.loop-turn.left c.ask.new.left (Err c.in-Err.fault)
      (c.loop-turn.invariant.so (sym c.is_more.ensures ∙ c.loop-turn-test.true)) (c.in-Err.ensures.went _) e;
  ready = λ e. absurd (cc);
  shape = λ e. absurd (cc);
}

pub loop-turn-preserved-in-Ok-Nothing : goal.loop-turn-preserved-in-Ok-Nothing
loop-turn-preserved-in-Ok-Nothing g c = record {
  so = λ e. absurd (cc);
  over = λ e.
      let heard = rw c.in-Ok-Nothing.field-0-is at c.in-Ok-Nothing.ensures.went in
      now_over g.T.Terminal.went g.met.T.Terminal.nothing g.met.T.Terminal.both c.args.lined.now _ _ _ _ _ _ c.loop-turn.left c.ask.new.left (Ok false)
      (c.loop-turn.invariant.so (sym c.is_more.ensures ∙ c.loop-turn-test.true)) (heard _) e;
  ready = λ e. absurd (cc);
  shape = λ e. absurd (cc);
}

-- ---- a stop

stop_turned : (g : Over) (c : goal.After-reply_stop g)
    → let old = session c.loop-turn.session.past (map (λ t. armed t.id t.cond) c.loop-turn.session.stops.items) (map (λ w. watch w.id ((own-2.entry w.watcher.vtable).1.meaning_of w.watcher.value)) c.loop-turn.session.watchers.items) in
    let new = session c.reply_stop.new.session.past (map (λ t. armed t.id t.cond) c.reply_stop.new.session.stops.items) (map (λ w. watch w.id ((own-2.entry w.watcher.vtable).1.meaning_of w.watcher.value)) c.reply_stop.new.session.watchers.items) in
    Turns (partner c.args.lined.now) (g.T.Terminal.went c.loop-turn.terminal c.reply_stop.new.terminal) (place old c.loop-turn.desk.ahead c.loop-turn.desk.declared.items) (place new c.reply_stop.new.desk.ahead c.reply_stop.new.desk.declared.items) c.loop-turn.left c.ask.new.left c.reply_stop.result
stop_turned g c =
    let old = session c.loop-turn.session.past (map (λ t. armed t.id t.cond) c.loop-turn.session.stops.items) (map (λ w. watch w.id ((own-2.entry w.watcher.vtable).1.meaning_of w.watcher.value)) c.loop-turn.session.watchers.items) in
    let new = session c.reply_stop.new.session.past (map (λ t. armed t.id t.cond) c.reply_stop.new.session.stops.items) (map (λ w. watch w.id ((own-2.entry w.watcher.vtable).1.meaning_of w.watcher.value)) c.reply_stop.new.session.watchers.items) in
    let heard = rw c.in-Ok-Stop.field-0-is at c.in-Ok-Stop.ensures.went in
    stop_answered g.T.Terminal.went g.met.T.Terminal.both c.args.lined.now c.loop-turn.terminal c.ask.new.terminal c.reply_stop.new.terminal (place old c.loop-turn.desk.ahead c.loop-turn.desk.declared.items) (place new c.reply_stop.new.desk.ahead c.reply_stop.new.desk.declared.items) c.loop-turn.left c.ask.new.left c.in-Ok-Stop.line c.in-Ok-Stop.id c.new-stop.result.id c.in-Ok-Stop.cond c.new-stop.result.cond c.reply_stop.result
    heard.0 heard.1 c.new-stop.ensures.id c.new-stop.ensures.cond c.reply_stop.ensures.went

pub loop-turn-smaller-in-Ok-new : goal.loop-turn-smaller-in-Ok-new
loop-turn-smaller-in-Ok-new g c =
    turns_fall c.args.lined.now (g.T.Terminal.went c.loop-turn.terminal c.reply_stop.new.terminal) _ _ c.loop-turn.left c.ask.new.left c.loop-turn.turn c.reply_stop.result (sym c.is_more.ensures ∙ c.loop-turn-test.true) (stop_turned g c)

pub loop-turn-preserved-in-Ok-new : goal.loop-turn-preserved-in-Ok-new
loop-turn-preserved-in-Ok-new g c = record {
  so = λ e. still_going g.T.Terminal.went g.met.T.Terminal.nothing g.met.T.Terminal.both c.args.lined.now _ _ _ _ _ _ c.loop-turn.left c.ask.new.left c.reply_stop.result (c.loop-turn.invariant.so (sym c.is_more.ensures ∙ c.loop-turn-test.true)) (stop_turned g c) e;
  over = λ e. now_over g.T.Terminal.went g.met.T.Terminal.nothing g.met.T.Terminal.both c.args.lined.now _ _ _ _ _ _ c.loop-turn.left c.ask.new.left c.reply_stop.result (c.loop-turn.invariant.so (sym c.is_more.ensures ∙ c.loop-turn-test.true)) (stop_turned g c) e;
  ready = λ e. on_more c.reply_stop.result c.reply_stop.ensures.ready e;
  shape = λ e. shape_kept c.args.lined.now.object.layout _ _ c.reply_stop.result c.reply_stop.ensures.shape (c.loop-turn.invariant.shape (sym c.is_more.ensures ∙ c.loop-turn-test.true)) e;
}

pub loop-turn-preserved-in-Err-new : goal.loop-turn-preserved-in-Err-new
loop-turn-preserved-in-Err-new g c = record {
  so = λ e. absurd (cc);
  over = λ e.
      let heard = rw c.in-Ok-Stop.field-0-is at c.in-Ok-Stop.ensures.went in
      now_over g.T.Terminal.went g.met.T.Terminal.nothing g.met.T.Terminal.both c.args.lined.now _ _ _ _ _ _ c.loop-turn.left c.ask.new.left (Err faults.NoMemory)
      (c.loop-turn.invariant.so (sym c.is_more.ensures ∙ c.loop-turn-test.true)) (line_unanswered g.T.Terminal.went g.met.T.Terminal.both c.args.lined.now _ _ _ _ c.loop-turn.left c.ask.new.left c.in-Ok-Stop.line heard.0) e;
  ready = λ e. absurd (cc);
  shape = λ e. absurd (cc);
}

-- ---- a watch

watch_turned : (g : Over) (c : goal.After-reply_watch g)
    → let old = session c.loop-turn.session.past (map (λ t. armed t.id t.cond) c.loop-turn.session.stops.items) (map (λ w. watch w.id ((own-2.entry w.watcher.vtable).1.meaning_of w.watcher.value)) c.loop-turn.session.watchers.items) in
    let new = session c.reply_watch.new.session.past (map (λ t. armed t.id t.cond) c.reply_watch.new.session.stops.items) (map (λ w. watch w.id ((own-2.entry w.watcher.vtable).1.meaning_of w.watcher.value)) c.reply_watch.new.session.watchers.items) in
    Turns (partner c.args.lined.now) (g.T.Terminal.went c.loop-turn.terminal c.reply_watch.new.terminal) (place old c.loop-turn.desk.ahead c.loop-turn.desk.declared.items) (place new c.reply_watch.new.desk.ahead c.reply_watch.new.desk.declared.items) c.loop-turn.left c.ask.new.left c.reply_watch.result
watch_turned g c =
    let old = session c.loop-turn.session.past (map (λ t. armed t.id t.cond) c.loop-turn.session.stops.items) (map (λ w. watch w.id ((own-2.entry w.watcher.vtable).1.meaning_of w.watcher.value)) c.loop-turn.session.watchers.items) in
    let new = session c.reply_watch.new.session.past (map (λ t. armed t.id t.cond) c.reply_watch.new.session.stops.items) (map (λ w. watch w.id ((own-2.entry w.watcher.vtable).1.meaning_of w.watcher.value)) c.reply_watch.new.session.watchers.items) in
    let heard = rw c.in-Ok-Watch.field-0-is at c.in-Ok-Watch.ensures.went in
    watch_answered g.T.Terminal.went g.met.T.Terminal.both c.args.lined.now c.loop-turn.terminal c.ask.new.terminal c.reply_watch.new.terminal (place old c.loop-turn.desk.ahead c.loop-turn.desk.declared.items) (place new c.reply_watch.new.desk.ahead c.reply_watch.new.desk.declared.items) c.loop-turn.left c.ask.new.left c.in-Ok-Watch.line c.in-Ok-Watch.order c.in-Ok-Watch.halts c.watched.result.id c.reply_watch.result
    heard.0 heard.1 c.watched.ensures.id c.reply_watch.ensures.went

pub loop-turn-smaller-in-Ok-new-2 : goal.loop-turn-smaller-in-Ok-new-2
loop-turn-smaller-in-Ok-new-2 g c =
    turns_fall c.args.lined.now (g.T.Terminal.went c.loop-turn.terminal c.reply_watch.new.terminal) _ _ c.loop-turn.left c.ask.new.left c.loop-turn.turn c.reply_watch.result (sym c.is_more.ensures ∙ c.loop-turn-test.true) (watch_turned g c)

pub loop-turn-preserved-in-Ok-new-2 : goal.loop-turn-preserved-in-Ok-new-2
loop-turn-preserved-in-Ok-new-2 g c = record {
  so = λ e. still_going g.T.Terminal.went g.met.T.Terminal.nothing g.met.T.Terminal.both c.args.lined.now _ _ _ _ _ _ c.loop-turn.left c.ask.new.left c.reply_watch.result (c.loop-turn.invariant.so (sym c.is_more.ensures ∙ c.loop-turn-test.true)) (watch_turned g c) e;
  over = λ e. now_over g.T.Terminal.went g.met.T.Terminal.nothing g.met.T.Terminal.both c.args.lined.now _ _ _ _ _ _ c.loop-turn.left c.ask.new.left c.reply_watch.result (c.loop-turn.invariant.so (sym c.is_more.ensures ∙ c.loop-turn-test.true)) (watch_turned g c) e;
  ready = λ e. on_more c.reply_watch.result c.reply_watch.ensures.ready e;
  shape = λ e. shape_kept c.args.lined.now.object.layout _ _ c.reply_watch.result c.reply_watch.ensures.shape (c.loop-turn.invariant.shape (sym c.is_more.ensures ∙ c.loop-turn-test.true)) e;
}

pub loop-turn-preserved-in-Err-new-2 : goal.loop-turn-preserved-in-Err-new-2
loop-turn-preserved-in-Err-new-2 g c = record {
  so = λ e. absurd (cc);
  over = λ e.
      let heard = rw c.in-Ok-Watch.field-0-is at c.in-Ok-Watch.ensures.went in
      now_over g.T.Terminal.went g.met.T.Terminal.nothing g.met.T.Terminal.both c.args.lined.now _ _ _ _ _ _ c.loop-turn.left c.ask.new.left (Err faults.NoMemory)
      (c.loop-turn.invariant.so (sym c.is_more.ensures ∙ c.loop-turn-test.true)) (line_unanswered g.T.Terminal.went g.met.T.Terminal.both c.args.lined.now _ _ _ _ c.loop-turn.left c.ask.new.left c.in-Ok-Watch.line heard.0) e;
  ready = λ e. absurd (cc);
  shape = λ e. absurd (cc);
}

-- ---- a question about all runs

check_turned : (g : Over) (c : goal.After-reply_check-turn g)
    → let old = session c.loop-turn.session.past (map (λ t. armed t.id t.cond) c.loop-turn.session.stops.items) (map (λ w. watch w.id ((own-2.entry w.watcher.vtable).1.meaning_of w.watcher.value)) c.loop-turn.session.watchers.items) in
    Turns (partner c.args.lined.now) (g.T.Terminal.went c.loop-turn.terminal c.reply_check-turn.new.terminal) (place old c.loop-turn.desk.ahead c.loop-turn.desk.declared.items) (place old c.reply_check-turn.new.desk.ahead c.reply_check-turn.new.desk.declared.items) c.loop-turn.left c.ask.new.left c.reply_check-turn.result
check_turned g c =
    let old = session c.loop-turn.session.past (map (λ t. armed t.id t.cond) c.loop-turn.session.stops.items) (map (λ w. watch w.id ((own-2.entry w.watcher.vtable).1.meaning_of w.watcher.value)) c.loop-turn.session.watchers.items) in
    let heard = rw c.in-Ok-Check.field-0-is at c.in-Ok-Check.ensures.went in
    check_answered g.T.Terminal.went g.met.T.Terminal.both c.args.lined.now c.loop-turn.terminal c.ask.new.terminal c.reply_check-turn.new.terminal (place old c.loop-turn.desk.ahead c.loop-turn.desk.declared.items) (place old c.reply_check-turn.new.desk.ahead c.reply_check-turn.new.desk.declared.items) c.loop-turn.left c.ask.new.left c.in-Ok-Check.line c.in-Ok-Check.cond c.reply_check-turn.result
    heard.0 heard.1 c.reply_check-turn.ensures.went

pub loop-turn-preserved-in-Ok-Check : goal.loop-turn-preserved-in-Ok-Check
loop-turn-preserved-in-Ok-Check g c = record {
  so = λ e. still_going g.T.Terminal.went g.met.T.Terminal.nothing g.met.T.Terminal.both c.args.lined.now _ _ _ _ _ _ c.loop-turn.left c.ask.new.left c.reply_check-turn.result (c.loop-turn.invariant.so (sym c.is_more.ensures ∙ c.loop-turn-test.true)) (check_turned g c) e;
  over = λ e. now_over g.T.Terminal.went g.met.T.Terminal.nothing g.met.T.Terminal.both c.args.lined.now _ _ _ _ _ _ c.loop-turn.left c.ask.new.left c.reply_check-turn.result (c.loop-turn.invariant.so (sym c.is_more.ensures ∙ c.loop-turn-test.true)) (check_turned g c) e;
  ready = λ e. on_more c.reply_check-turn.result c.reply_check-turn.ensures.ready e;
  shape = λ e. c.loop-turn.invariant.shape (sym c.is_more.ensures ∙ c.loop-turn-test.true);
}

-- ---- any other line

other_turned : (g : Over) (c : goal.After-reply-turn g)
    → let old = session c.loop-turn.session.past (map (λ t. armed t.id t.cond) c.loop-turn.session.stops.items) (map (λ w. watch w.id ((own-2.entry w.watcher.vtable).1.meaning_of w.watcher.value)) c.loop-turn.session.watchers.items) in
    let new = session c.reply-turn.new.session.past (map (λ t. armed t.id t.cond) c.reply-turn.new.session.stops.items) (map (λ w. watch w.id ((own-2.entry w.watcher.vtable).1.meaning_of w.watcher.value)) c.reply-turn.new.session.watchers.items) in
    Turns (partner c.args.lined.now) (g.T.Terminal.went c.loop-turn.terminal c.reply-turn.new.terminal) (place old c.loop-turn.desk.ahead c.loop-turn.desk.declared.items) (place new c.reply-turn.new.desk.ahead c.reply-turn.new.desk.declared.items) c.loop-turn.left c.ask.new.left c.reply-turn.result
other_turned g c =
    let old = session c.loop-turn.session.past (map (λ t. armed t.id t.cond) c.loop-turn.session.stops.items) (map (λ w. watch w.id ((own-2.entry w.watcher.vtable).1.meaning_of w.watcher.value)) c.loop-turn.session.watchers.items) in
    let new = session c.reply-turn.new.session.past (map (λ t. armed t.id t.cond) c.reply-turn.new.session.stops.items) (map (λ w. watch w.id ((own-2.entry w.watcher.vtable).1.meaning_of w.watcher.value)) c.reply-turn.new.session.watchers.items) in
    let heard = rw c.in-Ok-Other.field-0-is at c.in-Ok-Other.ensures.went in
    other_answered g.T.Terminal.went g.met.T.Terminal.both c.args.lined.now c.loop-turn.terminal c.ask.new.terminal c.reply-turn.new.terminal (place old c.loop-turn.desk.ahead c.loop-turn.desk.declared.items) (place new c.reply-turn.new.desk.ahead c.reply-turn.new.desk.declared.items) c.loop-turn.left c.ask.new.left c.in-Ok-Other.line c.in-Ok-Other.order c.reply-turn.result
    heard.0 heard.1 c.reply-turn.ensures.went

pub loop-turn-preserved-in-Ok-Other : goal.loop-turn-preserved-in-Ok-Other
loop-turn-preserved-in-Ok-Other g c = record {
  so = λ e. still_going g.T.Terminal.went g.met.T.Terminal.nothing g.met.T.Terminal.both c.args.lined.now _ _ _ _ _ _ c.loop-turn.left c.ask.new.left c.reply-turn.result (c.loop-turn.invariant.so (sym c.is_more.ensures ∙ c.loop-turn-test.true)) (other_turned g c) e;
  over = λ e. now_over g.T.Terminal.went g.met.T.Terminal.nothing g.met.T.Terminal.both c.args.lined.now _ _ _ _ _ _ c.loop-turn.left c.ask.new.left c.reply-turn.result (c.loop-turn.invariant.so (sym c.is_more.ensures ∙ c.loop-turn-test.true)) (other_turned g c) e;
  ready = λ e. on_more c.reply-turn.result c.reply-turn.ensures.ready e;
  shape = λ e. on_more c.reply-turn.result c.reply-turn.ensures.shape e;
}

pub returns : goal.returns
returns g c = rw c.ended.ensures (_, c.loop-turn.invariant.over (sym c.is_more.ensures ∙ c.loop-turn-test.false))
