use Rattle.std.proofs.Common.{[], arith}
use Rattle.conversations.proofs.AnswersGiven.{gone_so_far}
use Rattle.conversations.proofs.answering.go_to.Goals as goal

pub returns-clause-answers : goal.returns-clause-answers
returns-clause-answers g c =
    gone_so_far _ _ c.args.kept [] _ c.len-made.result c.take_back.result c.len-made.ensures.value (λ less. omega (arith, less, c.if-made-kept.false)) c.take_back.ensures.answers
