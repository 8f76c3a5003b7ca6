use Rattle.std.proofs.Common.{◌≡◌, ℕ, sym, subst}
use Rattle.std.specs.Prelude.{OnOk}
use Rattle.machine.specs.declared.step.Seen.{Seen}
use Rattle.image_reasons.specs.Origins.{origins_next, persisted_on}
use Rattle.image_reasons.proofs.origins.Origins.note.Goals as goal

pub returns-in-Persisted : goal.returns-in-Persisted
unfolding origins_next
returns-in-Persisted c =
    subst (λ (seen : Seen). OnOk c.persist.result (c.persist.new.self ≡ origins_next c.args.n c.args.self.now seen)) (sym c.in-Persisted.is)
    (subst (λ (line : ℕ). OnOk c.persist.result (c.persist.new.self ≡ persisted_on line c.args.self.now)) c.line.ensures c.persist.ensures)
