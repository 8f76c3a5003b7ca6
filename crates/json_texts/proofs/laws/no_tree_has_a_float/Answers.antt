use Rattle.json_texts.proofs.NoFloats.{has_none}
use Rattle.json_texts.proofs.laws.no_tree_has_a_float.Goals as goal

pub returns : goal.returns
returns c = has_none
