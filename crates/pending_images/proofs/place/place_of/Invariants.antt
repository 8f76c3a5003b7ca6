use Rattle.std.proofs.Common.{◌≡◌, ◌+◌, ◌*◌, ◌≤◌, drop}
use Rattle.pending_images.specs.Images.{place_from, place_of}
use Rattle.pending_images.proofs.place.place_of.Given as goal

abbrev pub invariant-loop-number : goal.invariant-loop-number
invariant-loop-number l = record {
  same : l.place + place_from l.number (drop l.number l.shape) l.word ≡ place_of l.shape l.word;
  few : l.place ≤ 256 * l.number;
}
