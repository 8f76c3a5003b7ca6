use Rattle.std.proofs.Common.{◌≡◌}
use Rattle.questions.specs.Items.{tokens_from}
use Rattle.questions.specs.Tokens.{item_tokens}
use Rattle.questions.proofs.items.Items.read_others.Given as goal

abbrev pub invariant-loop-token : goal.invariant-loop-token
invariant-loop-token l = tokens_from l.number l.self (item_tokens l.token-iterator.rest.now) ≡ tokens_from l.number l.fn.self (item_tokens l.fn.tokens.rest.now)
