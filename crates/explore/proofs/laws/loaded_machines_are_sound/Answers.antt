use Rattle.explore.proofs.SoundRuns.{loaded_sound}
use Rattle.explore.proofs.OpeningsAreFresh.{opening_fresh}
use Rattle.explore.proofs.laws.loaded_machines_are_sound.Goals as goal

pub returns-clause-sound : goal.returns-clause-sound
returns-clause-sound c = loaded_sound

pub returns-clause-fresh : goal.returns-clause-fresh
returns-clause-fresh c = opening_fresh
