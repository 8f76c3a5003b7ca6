use Rattle.std.proofs.Common.{◌≡◌, ◌++◌, drop}
use Rattle.std.specs.List.{flat_map}
use Rattle.image_reasons.specs.Reasons.{missing_own}
use Rattle.image_reasons.proofs.origins.Origins.push_buffered.Given as goal

abbrev pub invariant-loop-own : goal.invariant-loop-own
invariant-loop-own l =
    l.missing.items ++ flat_map (missing_own l.kept l.shape l.image) (drop l.own-index l.self.buffered) ≡ l.fn.missing.items ++ flat_map (missing_own l.kept l.shape l.image) l.self.buffered
