use Rattle.litmus_text.proofs.LinesAreSaid.{found_are_said, found_count}
use Rattle.litmus_text.proofs.laws.lines_say_their_instructions.Goals as goal

pub returns-clause-said : goal.returns-clause-said
returns-clause-said c = found_are_said

pub returns-clause-count : goal.returns-clause-count
returns-clause-count c = found_count
