use Rattle.images.proofs.StepsReach.{image_was_there}
use Rattle.images.proofs.laws.memory_steps_add_no_image.Goals as goal

pub returns : goal.returns
returns c = image_was_there
