use Rattle.std.proofs.Common.{◌≡◌, ◌+◌, length}
use Rattle.questions.specs.Places.{others_read}
use Rattle.questions.specs.Tokens.{item_tokens}
use Rattle.questions.proofs.place.others_read.Given as goal

abbrev pub invariant-loop-token : goal.invariant-loop-token
invariant-loop-token l = record {
  same : l.read + others_read l.number l.items (item_tokens l.token-iterator.rest.now) ≡ others_read l.fn.number l.fn.items (item_tokens l.fn.tokens.rest.now);
  few : l.read + length (item_tokens l.token-iterator.rest.now) ≡ length (item_tokens l.fn.tokens.rest.now);
}
