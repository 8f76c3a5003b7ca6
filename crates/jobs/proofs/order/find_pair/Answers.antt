use Rattle.jobs.proofs.order.find_pair.Goals as goal

pub returns-clause-exact : goal.returns-clause-exact
returns-clause-exact c = λ ok list steps_are. c.law_is_the_answer.ensures c.args.object.now list
