use Rattle.std.proofs.Common.{◌≡◌, []}
use Rattle.text_tokens.specs.Text.{tokens_of}
use Rattle.sheets.specs.Words.{values_from}
use Rattle.sheets.proofs.names.Names.values_said.Given as goal

abbrev pub invariant-loop-token : goal.invariant-loop-token
invariant-loop-token l = values_from l.self l.text.items l.word (tokens_of l.token-iterator.rest.now) ≡ values_from l.self [] l.first (tokens_of l.tokens.rest.now)
