use Rattle.std.proofs.Common.{◌∙◌, sym}
use Rattle.std.proofs.lemmas.Result.{err_from_is_err_and}
use Rattle.talks.proofs.PartsOfTurns.{heard_whole, turn_nothing, turn_unasked, turn_unheard}
use Rattle.conversations.specs.Answered.{partner}
use Rattle.conversations.proofs.TurnsMade.{asks_line}
use Rattle.conversations.proofs.turns.ask.Goals as goal

pub returns-in_err-say-clause-went : goal.returns-in_err-say-clause-went
returns-in_err-say-clause-went g c =
    let (y, is, from) = err_from_is_err_and c.from_residual.result c.from_residual.ensures.1 in
    rw (is, from) (λ p. turn_unasked g.T.Terminal.went g.met.T.Terminal.both (partner c.args.lined.now) _ _ p _ _ c.in_err-say.ensures.went)

pub returns-in_err-line-clause-went : goal.returns-in_err-line-clause-went
returns-in_err-line-clause-went g c =
    let (y, is, from) = err_from_is_err_and c.from_residual-in_err-line.result c.from_residual-in_err-line.ensures.1 in
    rw (is, from) (λ p. turn_unheard g.T.Terminal.went g.met.T.Terminal.both (partner c.args.lined.now) _ _ _ p c.args.left.now c.hear_line.new.left _ c.in_ok-say.ensures.went c.in_err-line.ensures.went)

pub returns-then-is_nothing-clause-went : goal.returns-then-is_nothing-clause-went
returns-then-is_nothing-clause-went g c =
    λ p. turn_nothing g.T.Terminal.went g.met.T.Terminal.both (partner c.args.lined.now) _ _ _ p c.args.left.now c.hear_line.new.left _ _ c.in_ok-say.ensures.went c.in_ok-line.ensures.went.0 (sym c.is_nothing.ensures ∙ c.if-is_nothing.true)

pub returns-clause-went : goal.returns-clause-went
returns-clause-went g c =
    asks_line g.T.Terminal.went g.met.T.Terminal.both c.args.lined.now _ _ c.args.left.now c.hear_line.new.left _ c.read.result
    (heard_whole g.T.Terminal.went g.met.T.Terminal.both (partner c.args.lined.now) _ _ _ c.args.left.now c.hear_line.new.left _ _ c.in_ok-say.ensures.went c.in_ok-line.ensures.went.0 c.in_ok-line.ensures.went.1 c.in_ok-line.ensures.went.2)
    (rw c.layout.ensures at c.read.ensures)
