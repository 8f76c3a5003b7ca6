use Rattle.std.proofs.Common.{rules, ◌≡◌, ◌++◌, [], ◌∷◌, Some, slice_get, ap, sym, ◌∙◌}
use Rattle.std.specs.Prelude.{option_map}
use Rattle.machine.specs.State.{Processor}
use Rattle.hunt.specs.Outcomes.{register_values}
use Rattle.hunt.proofs.ObservedWords.{given_next}
use Rattle.hunt.proofs.ends.registers.Goals as goal

pub loop-p-preserved : goal.loop-p-preserved
loop-p-preserved c =
    let some : option_map (λ (x : Processor). register_values x.regs) (slice_get c.args.view.now.processors c.loop-p.p) ≡ Some c.unwrap.result = search rules in
    c.in_ok-push.ensures.items ∙ ap (λ xs. xs ++ c.unwrap.result ∷ []) c.loop-p.invariant
    ∙ sym (given_next (λ (x : Processor). register_values x.regs) c.args.view.now.processors c.loop-p.p c.unwrap.result some)
