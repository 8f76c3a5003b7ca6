use Rattle.std.proofs.Common.{rules, ◌≡◌, Option, Some, [], ◌∷◌, ◌++◌, subst, sym}
use Rattle.conditions.specs.Formulas.{Formula}
use Rattle.explore.specs.Apart.{AreOf, both, with_more}
use Rattle.explore.proofs.SortedParts.{others_are, persisted_are}
use Rattle.explore.proofs.apart.Sorted.add.Goals as goal

-- src/apart.rt:50:13
pub returns-then-reads_persisted : goal.returns-then-reads_persisted
returns-then-reads_persisted c = λ yes fs are.
    let persisted = c.args.self.now.persisted in
    let others = c.args.self.now.others in
    let is : c.add_to.new.all ≡ Some (with_more persisted c.args.cond.now) = search rules in
    subst (λ (all : Option Formula). AreOf (both all others) (fs ++ c.args.cond.now ∷ [])) (sym is) (persisted_are persisted others c.args.cond.now fs are)

-- src/apart.rt:45:5
pub returns : goal.returns
returns c = λ yes fs are.
    let persisted = c.args.self.now.persisted in
    let others = c.args.self.now.others in
    let is : c.add_to-2.new.all ≡ Some (with_more others c.args.cond.now) = search rules in
    subst (λ (all : Option Formula). AreOf (both persisted all) (fs ++ c.args.cond.now ∷ [])) (sym is) (others_are persisted others c.args.cond.now fs are)
