use Rattle.std.proofs.Common.{◌≡◌, ◌++◌, drop, map}
use Rattle.std.specs.Prelude.{slice_index_or}
use Rattle.persist_buffer.specs.declared.entry.PendingEntry.TheVariants.{Marker}
use Rattle.explore.specs.Falls.{step_for}
use Rattle.conversations.proofs.imaged.fall_steps.Given as goal

abbrev pub invariant-loop-place : goal.invariant-loop-place
invariant-loop-place l =
    l.steps.items ++ map (λ place. step_for (slice_index_or l.view.memory.pending place (Marker 0))) (drop l.place-index l.places)
    ≡ map (λ place. step_for (slice_index_or l.view.memory.pending place (Marker 0))) l.places
