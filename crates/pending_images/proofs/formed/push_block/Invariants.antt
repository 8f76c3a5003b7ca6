use Rattle.std.proofs.Common.{◌≡◌, ◌-◌, ◌++◌, List, ℕ, drop, map, take}
use Rattle.std.specs.Prelude.{slice_set}
use Rattle.pending_images.proofs.formed.push_block.Given as goal

abbrev pub invariant-loop-i : goal.invariant-loop-i
invariant-loop-i l = l.images.items ≡ l.fn.images.items ++ map (λ (image : List ℕ). slice_set image l.place l.value) (take (l.i - l.from) (drop l.from l.fn.images.items))
