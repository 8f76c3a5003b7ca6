use Rattle.std.proofs.Common.{◌≡◌}
use Rattle.text_tokens.specs.Text.{tokens_of}
use Rattle.sheets.specs.Texts.{plain_from}
use Rattle.sheets.proofs.said.push_tokens.Given as goal

abbrev pub invariant-loop-token : goal.invariant-loop-token
invariant-loop-token l = plain_from l.text.items (tokens_of l.token-iterator.rest.now) ≡ plain_from l.fn.text.items (tokens_of l.fn.tokens.rest.now)
