use Rattle.debug_scripts.proofs.PartsOfDebug.{served_by_parts}
use Rattle.debug_scripts.proofs.laws.parts_are_the_command.Goals as goal

pub returns : goal.returns
returns g c = λ program script out made result reads plays. served_by_parts _ _ _ program script out result made reads plays
