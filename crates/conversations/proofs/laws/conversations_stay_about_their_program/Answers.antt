use Rattle.conversations.proofs.PlacesStay.{stays_about}
use Rattle.conversations.proofs.laws.conversations_stay_about_their_program.Goals as goal

pub returns : goal.returns
returns c = stays_about
