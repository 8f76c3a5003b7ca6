use Rattle.std.proofs.Common.{◌∙◌, ap, length}
use Rattle.lines_layout.specs.Lines.{line_of}
use Rattle.pending_images.specs.Gone.{next_of}
use Rattle.pending_images.proofs.AgreeingNumbers.{allowed_next}
use Rattle.pending_images.proofs.ValuesAreExact.{column_counted, pending_agree}
use Rattle.pending_images.proofs.values.found.Goals as goal

pub push_allowed-requires-clause-fits : goal.push_allowed-requires-clause-fits
push_allowed-requires-clause-fits c =
    rw c.new-gone.ensures (pending_agree c.args.given.now c.args.pending.now.memory c.deref.result.now (c.deref.ensures.value ∙ c.in_ok-fits.ensures))

pub push_allowed-requires-clause-column : goal.push_allowed-requires-clause-column
push_allowed-requires-clause-column c =
    rw (c.new-gone.ensures, c.line.ensures) (ap length (c.deref-2.ensures.value ∙ c.in_ok-column.ensures) ∙ column_counted c.args.word c.args.pending.now.memory)

pub push_allowed-requires-in-loop-k-clause-fits : goal.push_allowed-requires-in-loop-k-clause-fits
push_allowed-requires-in-loop-k-clause-fits c =
    let gone = c.pass.ensures ∙ ap next_of c.loop-k.invariant.gone in
    rw gone (pending_agree c.args.given.now c.args.pending.now.memory c.deref-in-loop-k.result.now (c.deref-in-loop-k.ensures.value ∙ c.in_ok-fits.ensures))

pub push_allowed-requires-in-loop-k-clause-column : goal.push_allowed-requires-in-loop-k-clause-column
push_allowed-requires-in-loop-k-clause-column c =
    let gone = c.pass.ensures ∙ ap next_of c.loop-k.invariant.gone in
    rw (gone, c.line-in-loop-k.ensures) (ap length (c.deref-in-loop-k-2.ensures.value ∙ c.in_ok-column.ensures) ∙ column_counted c.args.word c.args.pending.now.memory)

pub loop-k-preserved : goal.loop-k-preserved
loop-k-preserved c =
    let gone = c.pass.ensures ∙ ap next_of c.loop-k.invariant.gone in
    let pushed = rw (gone, c.line-in-loop-k.ensures, c.deref-in-loop-k.ensures.value, c.deref-in-loop-k-2.ensures.value) at c.in_ok-push_allowed-2.ensures in record {
      gone = gone;
      values = allowed_next c.in_ok-fits.fits.items (line_of c.args.word) c.in_ok-column.column.items c.loop-k.k c.args.pending.now.memory.pending c.loop-k.values.items _ c.loop-k.invariant.values pushed;
    }
