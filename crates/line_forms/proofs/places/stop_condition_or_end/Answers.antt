use Rattle.line_forms.proofs.TokenPlaces.{condition_is}
use Rattle.line_forms.proofs.places.stop_condition_or_end.Goals as goal

pub returns-clause-token : goal.returns-clause-token
returns-clause-token c =
    condition_is c.args.line.now c.before_comment-before.result.now c.split_at.result.1.now c.args.index c.piece_or_end-start.result c.condition_or_end-place.result
    c.before_comment-before.ensures c.split_at.ensures.back c.piece_or_end-start.ensures.token c.condition_or_end-place.ensures.token
