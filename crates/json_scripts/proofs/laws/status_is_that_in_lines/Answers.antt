use Rattle.json_scripts.proofs.EndsAsLines.{ends_alike}
use Rattle.json_scripts.proofs.laws.status_is_that_in_lines.Goals as goal

pub returns : goal.returns
returns c = ends_alike
