use Rattle.std.proofs.Common.{◌≡◌, false, take}
use Rattle.std.specs.List.{All}
use Rattle.choices.specs.Choices.{is_within}
use Rattle.mends.proofs.search.open_among.Given as goal

abbrev pub invariant-loop-place : goal.invariant-loop-place
invariant-loop-place l = All (λ one. is_within l.choice one.choice.items ≡ false) (take l.place l.untold)
