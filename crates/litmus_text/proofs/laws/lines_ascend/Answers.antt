use Rattle.litmus_text.proofs.LinesAscend.{found_ascend}
use Rattle.litmus_text.proofs.laws.lines_ascend.Goals as goal

pub returns : goal.returns
returns c = found_ascend
