use Rattle.std.proofs.Common.{refl}
use Rattle.conversations.proofs.command.talk_about.Goals as goal

pub talk-requires-clause-shape : goal.talk-requires-clause-shape
talk-requires-clause-shape g c = rw (c.requires.machine) refl

pub returns : goal.returns
returns g c = rw (c.requires.machine) at c.talk.ensures
