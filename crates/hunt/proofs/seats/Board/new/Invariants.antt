use Rattle.std.proofs.Common.{◌≡◌, ◌+◌, ◌-◌, ◌≤◌, [], vec_len, vec_capacity, All}
use Rattle.hunt.specs.Rule.{seat_view}
use Rattle.hunt.specs.Plays.{fresh}
use Rattle.hunt.specs.Seats.{view_of, IsSeatOf}
use Rattle.hunt.proofs.seats.Board.new.Given as goal

abbrev pub invariant-loop-k : goal.invariant-loop-k
invariant-loop-k l = record {
  length : vec_len l.all + 1 ≡ l.k;
  room : l.seats ≤ vec_capacity l.all;
  place : l.first.table_id ≡ l.board.table.shared.table_id;
  rest : l.first.me ≡ (seat_view l.limit ((l.seats + 1) - l.k) [] [] [], []);
  given : All (λ s. IsSeatOf l.board s × (view_of s ≡ fresh l.limit)) l.all.items;
}
