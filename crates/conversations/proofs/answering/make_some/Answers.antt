use Rattle.debugger.specs.Values.{session_of}
use Rattle.conversations.proofs.AnswersGiven.{few_within, some_made, some_tried}
use Rattle.conversations.proofs.answering.make_some.Goals as goal

pub returns-clause-answers : goal.returns-clause-answers
returns-clause-answers g c =
    let before = session_of (λ b. (goal.Watcher-dyn g (b.vtable, b.value)).meaning_of b.value) c.args.session.now in
    let after = session_of (λ b. (goal.Watcher-dyn g (b.vtable, b.value)).meaning_of b.value) c.make_up_to.new.session in
    some_made c.args.lined.now before after c.args.desk.now.ahead c.args.desk.now.declared.items c.in_ok-cut.cut c.args.steps.now c.up_to.result.now
    (rw (c.deref.ensures.value, c.machine.ensures) at c.in_ok-cut.ensures) c.up_to.ensures _ c.make_up_to.result c.make_up_to.ensures.session c.make_up_to.ensures.text

pub returns-clause-tried : goal.returns-clause-tried
returns-clause-tried g c =
    let before = session_of (λ b. (goal.Watcher-dyn g (b.vtable, b.value)).meaning_of b.value) c.args.session.now in
    some_tried c.args.lined.now before c.args.desk.now.declared.items c.in_ok-cut.cut c.args.steps.now c.up_to.result.now
    (rw (c.deref.ensures.value, c.machine.ensures) at c.in_ok-cut.ensures) c.up_to.ensures c.make_up_to.result c.make_up_to.ensures.tried

pub returns-clause-within : goal.returns-clause-within
returns-clause-within g c = few_within _ c.args.steps.now c.up_to.result.now c.up_to.ensures c.make_up_to.result c.make_up_to.ensures.within
