use Rattle.conversations.proofs.CrashesFall.{crashes_leave_the_image}
use Rattle.conversations.proofs.laws.crashes_leave_the_image.Goals as goal

pub returns : goal.returns
returns c = crashes_leave_the_image
