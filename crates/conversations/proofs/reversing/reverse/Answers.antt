use Rattle.std.proofs.Common.{◌≡◌, ◌-◌, length, map, refl}
use Rattle.debugger.specs.Stops.{armed}
use Rattle.debugger.specs.Sessions.{session, watch}
use Rattle.conversations.proofs.Reversals.{reversed_so}
use Rattle.conversations.proofs.reversing.reverse.Goals as goal

pub returns-clause-answers : goal.returns-clause-answers
returns-clause-answers g c =
    let before = session c.args.session.now.past (map (λ t. armed t.id t.cond) c.args.session.now.stops.items) (map (λ w. watch w.id ((goal.Watcher-dyn g (w.watcher.vtable, w.watcher.value)).meaning_of w.watcher.value)) c.args.session.now.watchers.items) in
    let after = session c.go_back.new.session.past (map (λ t. armed t.id t.cond) c.go_back.new.session.stops.items) (map (λ w. watch w.id ((goal.Watcher-dyn g (w.watcher.vtable, w.watcher.value)).meaning_of w.watcher.value)) c.go_back.new.session.watchers.items) in
    let gone : c.len-made.result - c.len-left.result ≡ length c.args.session.now.past.history - length c.go_back.new.session.past.history = rw (c.len-made.ensures.value, c.len-left.ensures.value) refl in
    reversed_so before after (c.len-made.result - c.len-left.result) _ _ c.push_back.result gone c.go_back.ensures.session c.push_back.ensures c.requires.empty
