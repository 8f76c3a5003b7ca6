use Rattle.std.proofs.Common.{inl}
use Rattle.conversations.proofs.command.converse_on.Goals as goal

pub returns : goal.returns
returns g c = inl (record { talk = c.talk_about-ended.result; talks = c.talk_about-ended.ensures; is = c.answer_after.ensures })
