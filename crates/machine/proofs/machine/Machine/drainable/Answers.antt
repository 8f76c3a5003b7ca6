use Rattle.std.proofs.Common.{◌∙◌, ap, refl, length}
use Rattle.std.specs.Prelude.{not}
use Rattle.std.proofs.lemmas.Option.{slice_get_read}
use Rattle.machine.proofs.AcceptedMasks.{none_drained, some_drained}
use Rattle.machine.proofs.machine.Machine.drainable.Goals as goal

pub returns-else-is_ok : goal.returns-else-is_ok
returns-else-is_ok c =
    let cpus = c.args.self.now.processors in
    let found = rw c.cpus.ensures.value at c.in-Some.ensures.lookup in
    none_drained c.args.self.now c.turn_left.result c.turn_left.ensures.value c.args.p c.in-Some.cpu.now (slice_get_read cpus (length cpus) c.args.p c.in-Some.cpu.now refl found.3.0 found.1) (c.is_ok.ensures.negation ∙ ap not c.if-is_ok.false)

pub returns-then-is_ok : goal.returns-then-is_ok
returns-then-is_ok c =
    let cpus = c.args.self.now.processors in
    let found = rw c.cpus.ensures.value at c.in-Some.ensures.lookup in
    some_drained c.args.self.now c.turn_left.result c.turn_left.ensures.value c.args.p c.in-Some.cpu.now (slice_get_read cpus (length cpus) c.args.p c.in-Some.cpu.now refl found.3.0 found.1) c.drainable.result
    (c.is_ok.ensures.negation ∙ ap not c.if-is_ok.true) (rw c.pending.ensures at c.drainable.ensures)
