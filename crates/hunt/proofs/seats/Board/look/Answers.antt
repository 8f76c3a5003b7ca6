use Rattle.std.proofs.Common.{rules, arith}
use Rattle.hunt.proofs.StepsKeepTheRule.{looks}
use Rattle.hunt.proofs.seats.Board.look.Goals as goal

pub load-requires : goal.load-requires
load-requires c =
    let b = c.args.self.now in let p = c.args.seat.now in
    (search rules, search rules, looks b.table.shared.key.limit b.table.shared.key.seats _ _ _ (omega (arith, b.terms.0, b.bounded.0)) p.one_part)
