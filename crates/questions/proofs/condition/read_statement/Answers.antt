use Rattle.std.proofs.Common.{◌≡◌, true, false, nat_le, sym, ◌∙◌, arith}
use Rattle.std.proofs.lemmas.Bool.Decides.{nat_tests}
use Rattle.questions.specs.Limits.{max_tokens}
use Rattle.questions.proofs.StatementSteps.{at_fault, at_limit}
use Rattle.questions.proofs.condition.read_statement.Goals as goal

pub returns-in-Err-Fault : goal.returns-in-Err-Fault
returns-in-Err-Fault c =
    let fault = rw c.in-Err-Fault.field-0-is at c.in-Err-Fault.ensures in
    let few : nat_le max_tokens c.loop-token.number ≡ false = grind (arith, nat_tests, c.if-number-ge-MAX_TOKENS.false) in
    rw (c.told_at.ensures, c.in-Err-Fault.kind-is) (sym c.loop-token.invariant.same ∙ at_fault _ _ _ _ _ _ _ c.in-Some.ensures.steps few fault)

pub returns-then-number-ge-MAX_TOKENS : goal.returns-then-number-ge-MAX_TOKENS
returns-then-number-ge-MAX_TOKENS c =
    let limit : nat_le max_tokens c.loop-token.number ≡ true = grind (arith, nat_tests, c.if-number-ge-MAX_TOKENS.true) in
    sym c.loop-token.invariant.same ∙ at_limit _ _ _ _ _ _ c.in-Some.ensures.steps limit
