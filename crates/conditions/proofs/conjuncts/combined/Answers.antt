use Rattle.std.proofs.Common.{◌≡◌, length, rules}
use Rattle.conditions.specs.Limits.{most_conjuncts}
use Rattle.conditions.proofs.TakenApart.{crossed_few}
use Rattle.conditions.proofs.conjuncts.combined.Goals as goal

pub returns-then-len-le-MOST_CONJUNCTS-2-clause-few : goal.returns-then-len-le-MOST_CONJUNCTS-2-clause-few
returns-then-len-le-MOST_CONJUNCTS-2-clause-few c =
    let fs = c.deref.result.now in
    let gs = c.deref-then-len-le-MOST_CONJUNCTS-2.result.now in
    let one : c.len-else-both.result ≡ length fs = search rules in
    let other : c.len-else-both-2.result ≡ length gs = search rules in
    crossed_few fs gs c.in_ok-crossed.field-0.items c.len-else-both.result c.len-else-both-2.result most_conjuncts c.in_ok-crossed.ensures one other c.if-len-le-MOST_CONJUNCTS-2.true
