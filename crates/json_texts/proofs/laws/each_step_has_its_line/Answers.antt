use Rattle.json_texts.proofs.LinesOfSteps.{line_there, lines_count}
use Rattle.json_texts.proofs.laws.each_step_has_its_line.Goals as goal

pub returns : goal.returns
returns c = record { all = lines_count; each = line_there }
