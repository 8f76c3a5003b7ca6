use Rattle.std.proofs.Common.{rules, ap}
use Rattle.hunt.proofs.StepsKeepTheRule.{splits}
use Rattle.hunt.proofs.seats.Board.cut.Goals as goal

pub split_seat-place-requires : goal.split_seat-place-requires
split_seat-place-requires c =
    let b = c.args.self.now in let e = c.requires.unused.1 in
    (search rules, search rules, splits b.table.shared.key.limit b.table.shared.key.seats _ _ c.requires.unused.0 (ap (λ m. m.0.claimed) e) (ap (λ m. m.0.bounds) e) (ap (λ m. m.0.reported) e))
