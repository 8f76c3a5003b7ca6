-- What a worker is given, and what it brings back.
use Rattle.std.specs.Prelude.{◌≡◌}
use Rattle.hunt.specs.declared.seats.Board.{Board}
use Rattle.hunt.specs.declared.seats.Seat.{Seat}
use Rattle.hunt.specs.declared.errand.Returned.{Returned}
use Rattle.hunt.specs.Plays.{fresh}
use Rattle.hunt.specs.Seats.{limit_of, view_of, IsSeatOf}
use Rattle.hunt.specs.Done.{Did, IsDone}
use Rattle.hunt.specs.Founds.{IsOfLeast}
use Rattle.hunt.specs.Known.{breaks}
use Rattle.hunt.specs.declared.search.Target.{Target}

-- A seat of the board that has made no call.
abbrev pub IsReady : Board → Seat → Type 0
IsReady board seat = IsSeatOf board seat × (view_of seat ≡ fresh (limit_of board))

-- The seat comes back when it needs no further number, and each number that it claimed was tried. With it comes what was found
-- of the least number that it reported.
pub record Worked (board : Board) (target : Target) (returned : Returned) : Type 0 where
  pub seat : IsSeatOf board returned.seat
  pub done : IsDone (view_of returned.seat)
  pub did : Did (breaks target) (view_of returned.seat)
  pub found : IsOfLeast target (view_of returned.seat).reported returned.found
