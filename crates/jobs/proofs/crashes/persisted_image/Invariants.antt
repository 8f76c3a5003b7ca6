use Rattle.std.proofs.Common.{◌≡◌, ◌++◌, map, drop}
use Rattle.std.specs.Prelude.{slice_index}
use Rattle.lines_layout.specs.Shapes.{words_from}
use Rattle.pending_images.specs.Images.{image_at}
use Rattle.jobs.proofs.crashes.persisted_image.Given as goal

abbrev pub invariant-loop-line : goal.invariant-loop-line
invariant-loop-line l = l.values.items ++ map (slice_index l.pending.memory.persisted) (words_from l.line (drop l.line l.pending.shape)) ≡ image_at l.pending.shape l.pending.memory.persisted
