use Rattle.std.proofs.Common.{rules, arith}
use Rattle.hunt.proofs.StepsKeepTheRule.{reports}
use Rattle.hunt.proofs.seats.Board.report.Goals as goal

pub fetch_min-requires : goal.fetch_min-requires
fetch_min-requires c =
    let b = c.args.self.now in let p = c.args.seat.now in
    (search rules, search rules, reports b.table.shared.key.limit b.table.shared.key.seats _ _ _ _ p.one_part (omega (arith, b.terms.0, c.requires.claimed.0)) c.requires.claimed.1)
