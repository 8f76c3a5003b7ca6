use Rattle.conversations.proofs.answering.obey.Goals as goal

pub returns-in-Make-clause-answers : goal.returns-in-Make-clause-answers
returns-in-Make-clause-answers g c = rw c.in-Make.is c.make.ensures.answers

pub returns-in-Pick-clause-answers : goal.returns-in-Pick-clause-answers
returns-in-Pick-clause-answers g c = rw c.in-Pick.is c.pick.ensures.answers

pub returns-in-Run-clause-answers : goal.returns-in-Run-clause-answers
returns-in-Run-clause-answers g c = rw c.in-Run.is c.run.ensures.answers

pub returns-in-Until-clause-answers : goal.returns-in-Until-clause-answers
returns-in-Until-clause-answers g c = rw c.in-Until.is c.until.ensures.answers

pub returns-in-CrashTo-clause-answers : goal.returns-in-CrashTo-clause-answers
returns-in-CrashTo-clause-answers g c = rw c.in-CrashTo.is c.crash_to.ensures.answers

pub returns-in-Finish-clause-answers : goal.returns-in-Finish-clause-answers
returns-in-Finish-clause-answers g c = rw c.in-Finish.is c.finish.ensures.answers

pub returns-in_ok-take_back-in-Undo-clause-answers : goal.returns-in_ok-take_back-in-Undo-clause-answers
returns-in_ok-take_back-in-Undo-clause-answers g c = rw c.in-Undo.is (c.in_ok-take_back-in-Undo.ensures.answers c.args.desk.now.ahead c.args.desk.now.declared.items)

pub returns-in_ok-reverse-in-Reverse-clause-answers : goal.returns-in_ok-reverse-in-Reverse-clause-answers
returns-in_ok-reverse-in-Reverse-clause-answers g c = rw c.in-Reverse.is (c.in_ok-reverse-in-Reverse.ensures.answers c.args.desk.now.ahead c.args.desk.now.declared.items)

pub returns-in_ok-go_to-in-Goto-clause-answers : goal.returns-in_ok-go_to-in-Goto-clause-answers
returns-in_ok-go_to-in-Goto-clause-answers g c = rw c.in-Goto.is (c.in_ok-go_to-in-Goto.ensures.answers c.args.desk.now.ahead c.args.desk.now.declared.items)
