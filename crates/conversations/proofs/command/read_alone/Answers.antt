use Rattle.std.proofs.Common.{◌≡◌, true, false, inl, inr}
use Rattle.conversations.proofs.command.read_alone.Goals as goal

pub returns-in-Ok : goal.returns-in-Ok
returns-in-Ok g c = c.in-Ok.ensures.0

pub returns-in-Err : goal.returns-in-Err
returns-in-Err g c = elim c.in-Err.ensures [
  | inl fails ↦ (fails.why, fails.unread, fails.is)
  | inr fails ↦ (let never : false ≡ true = fails.is_asked in absurd (cc))
]
