use Rattle.std.proofs.Common.{rules, sym, ◌∙◌}
use Rattle.hunt.proofs.StepsKeepTheRule.{settles}
use Rattle.hunt.proofs.seats.Board.settle.Goals as goal

pub load-requires : goal.load-requires
load-requires c =
    let b = c.args.self.now in
    (search rules, search rules, settles b.table.shared.key.limit b.table.shared.key.seats _ _ _ c.args.whole.now.some_part (c.requires.1 ∙ sym b.terms.1))
