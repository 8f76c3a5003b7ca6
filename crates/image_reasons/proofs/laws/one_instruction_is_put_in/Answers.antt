use Rattle.image_reasons.proofs.OneInstructionIsPutIn.{is_no_repair, more, others, rest, stays_object}
use Rattle.image_reasons.proofs.laws.one_instruction_is_put_in.Goals as goal

pub returns-clause-code : goal.returns-clause-code
returns-clause-code c = more

pub returns-clause-others : goal.returns-clause-others
returns-clause-others c = others

pub returns-clause-rest : goal.returns-clause-rest
returns-clause-rest c = rest

pub returns-clause-object : goal.returns-clause-object
returns-clause-object c = stays_object

pub returns-clause-none : goal.returns-clause-none
returns-clause-none c = is_no_repair
