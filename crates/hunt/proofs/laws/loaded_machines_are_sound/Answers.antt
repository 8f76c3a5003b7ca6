use Rattle.hunt.proofs.SoundStates.{loaded_sound}
use Rattle.hunt.proofs.laws.loaded_machines_are_sound.Goals as goal

pub returns : goal.returns
returns c = λ object named is steps. loaded_sound object steps named is
