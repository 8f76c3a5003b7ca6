use Rattle.std.proofs.Common.{◌≡◌}
use Rattle.questions.specs.Tokens.{item_tokens}
use Rattle.questions.specs.Conditions.{statement_from, statement_of}
use Rattle.questions.proofs.condition.read_statement.Given as goal

abbrev pub invariant-loop-token : goal.invariant-loop-token
invariant-loop-token l = record {
  same : statement_from l.scope l.number l.body (item_tokens l.token-iterator.rest.now) ≡ statement_of l.scope l.text;
}
