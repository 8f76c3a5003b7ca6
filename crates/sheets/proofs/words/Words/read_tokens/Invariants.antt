use Rattle.std.proofs.Common.{◌≡◌}
use Rattle.text_tokens.specs.Text.{tokens_of}
use Rattle.sheets.specs.Words.{words_from}
use Rattle.sheets.proofs.words.Words.read_tokens.Given as goal

abbrev pub invariant-loop-token : goal.invariant-loop-token
invariant-loop-token l = words_from l.names l.copy l.self (tokens_of l.token-iterator.rest.now) ≡ words_from l.names l.copy l.fn.self (tokens_of l.fn.tokens.rest.now)
