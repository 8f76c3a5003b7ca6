use Rattle.std.proofs.Common.{◌≡◌, ◌+◌, ◌-◌}
use Rattle.pending_images.specs.Candidates.{markers}
use Rattle.pending_images.specs.LeastCuts.{first_cut}
use Rattle.pending_images.proofs.first_cut.first_cut.Given as goal

abbrev pub invariant-loop-markers : goal.invariant-loop-markers
invariant-loop-markers l = record {
  gone : l.gone ≡ record { pending = l.pending; markers = l.markers };
  rest : first_cut l.fits l.pending.memory.pending 0 (markers l.pending.memory.pending + 1) ≡ first_cut l.fits l.pending.memory.pending l.markers (markers l.pending.memory.pending + 1 - l.markers);
}
