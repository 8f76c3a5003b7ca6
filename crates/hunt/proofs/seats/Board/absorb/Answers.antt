use Rattle.std.proofs.Common.{rules, arith}
use Rattle.hunt.proofs.StepsKeepTheRule.{joins}
use Rattle.hunt.proofs.seats.Board.absorb.Goals as goal

pub join_seat-requires : goal.join_seat-requires
join_seat-requires c =
    let b = c.args.self.now in
    (search rules, search rules, search rules, search rules, joins b.table.shared.key.limit b.table.shared.key.seats _ _ _ _ c.args.whole.now.some_part (omega (arith, c.args.seat.one_part)))
