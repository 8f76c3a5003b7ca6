use Rattle.debug_scripts.specs.Ahead.{all_ahead}
use Rattle.debugger.specs.Values.{session_of}
use Rattle.conversations.proofs.AnswersGiven.{gone_so}
use Rattle.conversations.proofs.answering.go_on.Goals as goal

pub returns-in-Ok-clause-answers : goal.returns-in-Ok-clause-answers
returns-in-Ok-clause-answers g c =
    let before = session_of (λ b. (goal.Watcher-dyn g (b.vtable, b.value)).meaning_of b.value) c.args.session.now in
    let after = session_of (λ b. (goal.Watcher-dyn g (b.vtable, b.value)).meaning_of b.value) c.make_some.new.session in
    gone_so c.args.lined.now before after c.args.desk.now.ahead c.pass.new.self c.args.desk.now.declared.items c.all.result.now (all_ahead c.args.desk.now.ahead) _ c.in-Ok.count c.all.ensures c.in-Ok.ensures.answers
    c.in-Ok.ensures.tried c.pass.ensures
