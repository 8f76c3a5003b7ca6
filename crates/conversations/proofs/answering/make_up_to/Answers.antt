use Rattle.std.proofs.Common.{map, refl}
use Rattle.debugger.specs.Stops.{armed}
use Rattle.debugger.specs.Sessions.{session, watch}
use Rattle.debug_scripts.proofs.PlayedCommands.{tried_ahead}
use Rattle.conversations.proofs.AnswersGiven.{after_keeps, made_so, tried_so, tried_within, written_so}
use Rattle.conversations.proofs.answering.make_up_to.Goals as goal

pub tried-requires : goal.tried-requires
tried-requires g c =
    let before = session c.args.session.now.past (map (λ t. armed t.id t.cond) c.args.session.now.stops.items) (map (λ w. watch w.id ((goal.Watcher-dyn g (w.watcher.vtable, w.watcher.value)).meaning_of w.watcher.value)) c.args.session.now.watchers.items) in
    tried_ahead before c.args.steps.now c.args.steps.now c.go-halt.result c.go-halt.ensures.halt refl

pub returns-clause-session : goal.returns-clause-session
returns-clause-session g c = made_so _ _ c.args.steps.now c.go-halt.result c.go-halt.ensures.halt c.in_ok-push_halt.ensures.made c.go-halt.ensures.session

pub returns-clause-text : goal.returns-clause-text
returns-clause-text g c =
    let before = session c.args.session.now.past (map (λ t. armed t.id t.cond) c.args.session.now.stops.items) (map (λ w. watch w.id ((goal.Watcher-dyn g (w.watcher.vtable, w.watcher.value)).meaning_of w.watcher.value)) c.args.session.now.watchers.items) in
    let after = session c.go-halt.new.self.past (map (λ t. armed t.id t.cond) c.go-halt.new.self.stops.items) (map (λ w. watch w.id ((goal.Watcher-dyn g (w.watcher.vtable, w.watcher.value)).meaning_of w.watcher.value)) c.go-halt.new.self.watchers.items) in
    written_so before after c.args.steps.now c.go-halt.result c.go-halt.ensures.halt c.in_ok-push_halt.ensures.made c.args.cut _ _ c.in_ok-push_halt.ensures.text c.requires.empty

pub returns-clause-tried : goal.returns-clause-tried
returns-clause-tried g c =
    let before = session c.args.session.now.past (map (λ t. armed t.id t.cond) c.args.session.now.stops.items) (map (λ w. watch w.id ((goal.Watcher-dyn g (w.watcher.vtable, w.watcher.value)).meaning_of w.watcher.value)) c.args.session.now.watchers.items) in
    let after = session c.go-halt.new.self.past (map (λ t. armed t.id t.cond) c.go-halt.new.self.stops.items) (map (λ w. watch w.id ((goal.Watcher-dyn g (w.watcher.vtable, w.watcher.value)).meaning_of w.watcher.value)) c.go-halt.new.self.watchers.items) in
    tried_so before after c.args.steps.now c.go-halt.result c.go-halt.ensures.halt c.in_ok-push_halt.ensures.made _ c.tried.ensures

pub returns-clause-within : goal.returns-clause-within
returns-clause-within g c =
    let before = session c.args.session.now.past (map (λ t. armed t.id t.cond) c.args.session.now.stops.items) (map (λ w. watch w.id ((goal.Watcher-dyn g (w.watcher.vtable, w.watcher.value)).meaning_of w.watcher.value)) c.args.session.now.watchers.items) in
    let after = session c.go-halt.new.self.past (map (λ t. armed t.id t.cond) c.go-halt.new.self.stops.items) (map (λ w. watch w.id ((goal.Watcher-dyn g (w.watcher.vtable, w.watcher.value)).meaning_of w.watcher.value)) c.go-halt.new.self.watchers.items) in
    tried_within before after c.args.steps.now c.go-halt.result c.go-halt.ensures.halt c.in_ok-push_halt.ensures.made _ c.tried.ensures

pub returns-clause-shape : goal.returns-clause-shape
returns-clause-shape g c = after_keeps _ _ _ c.go-halt.ensures.session

pub returns-in_err-push_halt-clause-shape : goal.returns-in_err-push_halt-clause-shape
returns-in_err-push_halt-clause-shape g c = after_keeps _ _ _ c.go-halt.ensures.session
