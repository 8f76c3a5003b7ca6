use Rattle.std.proofs.Common.{◌≡◌, ◌∙◌, ◌-◌, ℕ, List, ap, arith, length, subst, sym, take}
use Rattle.std.specs.Prelude.{nat_le, Option}
use Rattle.std.specs.List.{count_by}
use Rattle.std.proofs.lemmas.List.{take-take, take_all}
use Rattle.machine.specs.State.{State}
use Rattle.debugger.specs.Checkpoints.{AreRisingLengths, IsGivenUp}
use Rattle.debugger.specs.declared.checkpoint.Checkpoint.{Checkpoint}
use Rattle.debugger.proofs.KeptCheckpoints.{front_kept, rising_kept}
use Rattle.debugger.proofs.SpareMachines.{last_given}
use Rattle.debugger.proofs.checkpoint.Checkpoints.keep_to.Goals.{in-Some, in-None}
use Rattle.debugger.proofs.checkpoint.Checkpoints.keep_to.Goals as goal

pub returns-then-count-len-clause-kept : goal.returns-then-count-len-clause-kept
returns-then-count-len-clause-kept c =
    let long : c.len.result ≡ length c.args.self.now = c.len.ensures.len ∙ ap (λ (xs : List Checkpoint). length xs) c.self.view_is in
    sym (take_all c.count_to-count.result c.args.self.now (omega (arith, long, c.if-count-len.true)))
    ∙ ap (λ (n : ℕ). take n c.args.self.now) c.count_to-count.ensures
    ∙ front_kept c.args.aim c.args.self.now (subst AreRisingLengths c.self.view_is c.self.invariant.1)

pub returns-clause-kept : goal.returns-clause-kept
returns-clause-kept c =
    ap (λ b. b.items) c.truncate_back.ensures
    ∙ ap (λ b. take c.count_to-count.result b.items) c.pop_back-last.ensures.items
    ∙ take-take c.count_to-count.result (length c.self.inside.ring.items - 1) c.self.inside.ring.items (omega (arith, c.len.ensures.len, c.if-count-len.false))
    ∙ ap (λ (n : ℕ). take n c.self.inside.ring.items) c.count_to-count.ensures
    ∙ ap (λ (xs : List Checkpoint). take (count_by (λ x. nat_le x.length c.args.aim) c.args.self.now) xs) c.self.view_is
    ∙ front_kept c.args.aim c.args.self.now (subst AreRisingLengths c.self.view_is c.self.invariant.1)

pub invariant_of-self : goal.invariant_of-self
invariant_of-self c = (
  ap (λ b. b.capacity) c.truncate_back.ensures ∙ ap (λ b. b.capacity) c.pop_back-last.ensures.items ∙ c.self.invariant.0,
  subst AreRisingLengths (sym (returns-clause-kept c)) (rising_kept c.args.aim c.args.self.now (subst AreRisingLengths c.self.view_is c.self.invariant.1)),
)

pub returns-clause-given : goal.returns-clause-given
returns-clause-given c =
    elim c.match-last.branch [
      | in-Some w ↦ subst (λ (q : Option State). IsGivenUp c.args.self.now q) (sym w.result-is) (last_given c.args.self.now c.self.inside.ring.items _ w.in-Some.last c.self.view_is c.pop_back-last.ensures.value w.in-Some.is)
      | in-None w ↦ subst (λ (q : Option State). IsGivenUp c.args.self.now q) (sym w.result-is) tt
    ]
