use Rattle.std.proofs.Common.{◌∙◌, ap, length}
use Rattle.std.specs.Prelude.{is_ok, not}
use Rattle.store_buffer.specs.Buffers.{free_places}
use Rattle.machine.specs.Processors.{drain_of}
use Rattle.machine.proofs.AcceptedMasks.{begins, first_there, first_drains, one_stays, one_goes, fewer_free, fewer, all_tested}
use Rattle.machine.proofs.logical_processor.Processor.drainable.Goals as goal

pub loop-left-init : goal.loop-left-init
loop-left-init c = begins c.args.self.now c.args.pending.now.memory c.free-mask.result (c.free-mask.ensures ∙ ap (λ p. free_places p.buffer) c.self.view_is)

pub bounds-entries-place : goal.bounds-entries-place
bounds-entries-place c = first_there c.args.self.now c.args.pending.now.memory c.buffer-entries.result.now c.buffer-entries.ensures.value c.loop-left.left c.loop-left-test.true c.loop-left.auto.left-fits.fits c.loop-left.invariant.1

pub loop-left-smaller-then-is_err : goal.loop-left-smaller-then-is_err
loop-left-smaller-then-is_err c = fewer c.loop-left.left c.loop-left-test.true c.loop-left.auto.left-fits.fits

pub loop-left-preserved-then-is_err : goal.loop-left-preserved-then-is_err
loop-left-preserved-then-is_err c =
    let same = c.buffer-entries.ensures.value in
    let some = c.loop-left-test.true in
    let fits = c.loop-left.auto.left-fits.fits in
    let there = first_there c.args.self.now c.args.pending.now.memory c.buffer-entries.result.now same c.loop-left.left some fits c.loop-left.invariant.1 in
    let drains = first_drains c.args.self.now c.args.pending.now.memory c.buffer-entries.result.now same c.loop-left.left some fits c.loop-left.invariant.1 c.index-entries-place.result c.receive_room.result c.index-entries-place.is c.receive_room.ensures in (
      one_goes c.loop-left.left some fits (length c.args.self.now.buffer) (λ i. is_ok (drain_of c.args.self.now c.args.pending.now.memory i)) c.loop-left.mask c.loop-left.invariant.0 (rw same at there)
          (drains ∙ c.is_err.ensures.negation ∙ ap not c.if-is_err.true),
      fewer_free c.loop-left.left some fits c.args.self.now.buffer c.loop-left.invariant.1,
    )

pub loop-left-smaller : goal.loop-left-smaller
loop-left-smaller c = fewer c.loop-left.left c.loop-left-test.true c.loop-left.auto.left-fits.fits

pub loop-left-preserved : goal.loop-left-preserved
loop-left-preserved c =
    let same = c.buffer-entries.ensures.value in
    let some = c.loop-left-test.true in
    let fits = c.loop-left.auto.left-fits.fits in
    let there = first_there c.args.self.now c.args.pending.now.memory c.buffer-entries.result.now same c.loop-left.left some fits c.loop-left.invariant.1 in
    let drains = first_drains c.args.self.now c.args.pending.now.memory c.buffer-entries.result.now same c.loop-left.left some fits c.loop-left.invariant.1 c.index-entries-place.result c.receive_room.result c.index-entries-place.is c.receive_room.ensures in (
      one_stays c.loop-left.left some fits (length c.args.self.now.buffer) (λ i. is_ok (drain_of c.args.self.now c.args.pending.now.memory i)) c.loop-left.mask c.loop-left.invariant.0 (rw same at there)
          (drains ∙ c.is_err.ensures.negation ∙ ap not c.if-is_err.false),
      fewer_free c.loop-left.left some fits c.args.self.now.buffer c.loop-left.invariant.1,
    )

pub returns : goal.returns
returns c = all_tested (length c.args.self.now.buffer) (λ i. is_ok (drain_of c.args.self.now c.args.pending.now.memory i)) c.loop-left.left c.loop-left.mask c.buffer-entries.ensures.room c.loop-left.auto.mask-fits.fits c.loop-left.invariant.0 c.loop-left-test.false
