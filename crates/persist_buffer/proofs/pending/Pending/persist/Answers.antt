use Rattle.std.proofs.Common.{◌≡◌, ◌<◌, length, rules, sym, ◌∙◌, ap, subst}
use Rattle.std.specs.Prelude.{find, IsSome}
use Rattle.lines_layout.specs.Lines.{line_of}
use Rattle.persist_buffer.specs.State.{Memory}
use Rattle.persist_buffer.specs.Memories.{is_write_on}
use Rattle.persist_buffer.specs.Nexts.{IsNextWrite}
use Rattle.persist_buffer.specs.Firsts.{drop_first}
use Rattle.persist_buffer.proofs.PersistAndSettle.{next_write_there, persist_kept}
use Rattle.persist_buffer.proofs.CoherentValuesAreKept.{write_persisted}
use Rattle.persist_buffer.proofs.pending.Pending.persist.Goals as goal

pub pop_write-requires : goal.pop_write-requires
pop_write-requires c =
    let next : IsNextWrite c.args.line c.in_ok-word.word c.in_ok-word.value c.self.inside.list = subst (λ p. IsNextWrite c.args.line c.in_ok-word.word c.in_ok-word.value p.memory.pending) (sym c.self.view_is) c.in_ok-word.ensures.next in
    subst (λ k. IsSome (find (is_write_on k) c.self.inside.list)) (sym c.line.ensures) (next_write_there c.args.line c.in_ok-word.word c.in_ok-word.value c.self.inside.list next)

pub invariant_of-self : goal.invariant_of-self
invariant_of-self c =
    let m : Memory = record { pending = c.self.inside.list; persisted = c.self.inside.persisted } in
    let next : IsNextWrite c.args.line c.in_ok-word.word c.in_ok-word.value c.self.inside.list = subst (λ p. IsNextWrite c.args.line c.in_ok-word.word c.in_ok-word.value p.memory.pending) (sym c.self.view_is) c.in_ok-word.ensures.next in
    let left : c.pop_write.new.self ≡ drop_first (is_write_on (line_of c.in_ok-word.word)) c.self.inside.list = c.pop_write.ensures ∙ ap (λ k. drop_first (is_write_on k) c.self.inside.list) c.line.ensures in
    let small : c.in_ok-word.word < 512 = search rules in
    rw c.set.ensures (write_persisted c.self.inside.coherent m c.pop_write.new.self c.args.line c.in_ok-word.word c.in_ok-word.value c.self.invariant small next left)

pub returns-clause-memory : goal.returns-clause-memory
returns-clause-memory c =
    let m : Memory = record { pending = c.self.inside.list; persisted = c.self.inside.persisted } in
    let next : IsNextWrite c.args.line c.in_ok-word.word c.in_ok-word.value c.self.inside.list = subst (λ p. IsNextWrite c.args.line c.in_ok-word.word c.in_ok-word.value p.memory.pending) (sym c.self.view_is) c.in_ok-word.ensures.next in
    let left : c.pop_write.new.self ≡ drop_first (is_write_on (line_of c.in_ok-word.word)) c.self.inside.list = c.pop_write.ensures ∙ ap (λ k. drop_first (is_write_on k) c.self.inside.list) c.line.ensures in
    let there : c.args.line < length c.self.inside.shape = subst (λ p. c.args.line < length p.shape) (sym c.self.view_is) c.in_ok-word.ensures.line in
    rw (← c.self.view_is, c.set.ensures) (persist_kept c.self.inside.shape m c.args.line c.in_ok-word.word c.in_ok-word.value c.pop_write.new.self there next left)
