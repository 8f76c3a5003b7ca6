-- What the clauses of a board's calls say of its seats.
use Rattle.std.specs.Prelude.{◌≡◌, ℕ, ◌<◌, ◌≤◌, ◌⊎◌, [], All, vec_len}
use Rattle.std.specs.Global.{Vec}
use Rattle.atomic_table.specs.declared.shared.Seat as table
use Rattle.hunt.specs.declared.rule.SeatView.{SeatView}
use Rattle.hunt.specs.declared.seats.Board.{Board}
use Rattle.hunt.specs.declared.seats.Seat.{Seat}
use Rattle.hunt.specs.declared.seats.Gathered.{Gathered}
use Rattle.hunt.specs.Counts.{Has, beyond}
use Rattle.hunt.specs.Plays.{after_claim, after_look, fresh, joined, IsLowFor}
use Rattle.hunt.specs.Rule.{no_report, seat_view}

-- how many numbers a board hands out
abbrev pub limit_of : Board → ℕ
limit_of board = board.limit

-- how many seats it has
abbrev pub seats_of : Board → ℕ
seats_of board = board.seats

-- what a seat claimed, saw and reported
abbrev pub view_of : Seat → SeatView
view_of seat = seat.place.me.0

-- what all the seats claimed, saw and reported that were given back
abbrev pub whole_of : Gathered → SeatView
whole_of gathered = gathered.place.me.0

-- the seat is one of this board's
abbrev pub IsSeatOf : Board → Seat → Type 0
IsSeatOf board seat = (seat.place.table_id ≡ board.table.shared.table_id) × (seat.place.me.0.limit ≡ board.limit)

-- what was given back is of this board's seats
abbrev pub IsGatheredOf : Board → Gathered → Type 0
IsGatheredOf board gathered = (gathered.place.table_id ≡ board.table.shared.table_id) × (gathered.place.me.0.limit ≡ board.limit)

-- The board hands out the numbers below this limit, to so many seats.
abbrev pub HandsOut : Board → ℕ → ℕ → Type 0
HandsOut board limit seats = (limit_of board ≡ limit) × (seats_of board ≡ seats)

-- These are so many seats of the board, and none of them has made a call.
abbrev pub AreFresh : Board → ℕ → ℕ → Vec Seat → Type 0
AreFresh board limit n seats =
    (vec_len seats ≡ n) × All (λ seat. IsSeatOf board seat × (view_of seat ≡ fresh limit)) seats.items

-- a place at the table of a board, which has parts of the board
abbrev pub Place : Type 0
Place = table.Seat (Unit {0}) SeatView

-- how many parts it has
abbrev pub parts_of : Place → ℕ
parts_of place = place.me.0.parts

-- A place with so many parts of a board with this limit made no call.
abbrev pub IsUnused : ℕ → ℕ → Place → Type 0
IsUnused limit parts place = place.me ≡ (seat_view limit parts [] [] [], [])

-- One of its several parts can be cut off.
abbrev pub CanBeCut : ℕ → Place → Type 0
CanBeCut limit place = (1 < parts_of place) × IsUnused limit (parts_of place) place

-- Such a place is at this board's table.
abbrev pub IsDealt : Board → ℕ → ℕ → Place → Type 0
IsDealt board limit parts place = (place.table_id ≡ board.table.shared.table_id) × IsUnused limit parts place

-- A seat did what it had done before.
abbrev pub IsStill : Seat → Seat → Type 0
IsStill seat before = view_of seat ≡ view_of before

-- A further seat was given back.
abbrev pub IsJoined : Gathered → Seat → Gathered → Type 0
IsJoined before seat after = whole_of after ≡ joined (whole_of before) (view_of seat)

-- All seats of this board were given back.
abbrev pub IsWholeOf : Board → Gathered → Type 0
IsWholeOf board gathered = IsGatheredOf board gathered × ((whole_of gathered).parts ≡ seats_of board)

-- a claim of the seat found no number below the limit
abbrev pub IsOver : SeatView → Type 0
IsOver v = 0 < beyond v.limit v.claimed

-- The seat claimed x: it is below the limit, and above all that the seat had claimed.
abbrev pub Draws : SeatView → ℕ → SeatView → Type 0
Draws v x w = (x < v.limit) × (w ≡ after_claim v x) × ((y : ℕ) → Has v.claimed y → y < x)

-- The seat found a number that is not below the limit, now or before.
abbrev pub Ends : SeatView → SeatView → Type 0
Ends v w = IsOver w × ((w ≡ v) ⊎ ((x : ℕ) × (v.limit ≤ x) × (w ≡ after_claim v x)))

-- The seat saw x: it is at most what it had seen and reported, and below the limit, or nothing was reported.
abbrev pub Sees : SeatView → ℕ → SeatView → Type 0
Sees v x w = (w ≡ after_look v x) × IsLowFor v x × ((x ≡ no_report) ⊎ (x < v.limit))
