use Rattle.std.proofs.Common.{◌≡◌}
use Rattle.text_tokens.specs.Text.{tokens_of}
use Rattle.jobs.specs.Values.{values_of}
use Rattle.jobs.proofs.ValueTokens.{with_front}
use Rattle.jobs.proofs.values.image_of.Given as goal

abbrev pub invariant-loop-token : goal.invariant-loop-token
invariant-loop-token l = with_front l.values.items (values_of (tokens_of l.token-iterator.rest.now)) ≡ values_of (tokens_of l.text)
