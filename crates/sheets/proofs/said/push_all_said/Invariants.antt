use Rattle.std.proofs.Common.{◌≡◌}
use Rattle.text_tokens.specs.Text.{tokens_of}
use Rattle.sheets.specs.Texts.{said_from}
use Rattle.sheets.proofs.said.push_all_said.Given as goal

abbrev pub invariant-loop-token : goal.invariant-loop-token
invariant-loop-token l = said_from l.names l.copy l.text.items (tokens_of l.token-iterator.rest.now) ≡ said_from l.names l.copy l.fn.text.items (tokens_of l.fn.tokens.rest.now)
