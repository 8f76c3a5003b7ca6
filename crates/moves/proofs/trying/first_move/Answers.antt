use Rattle.std.proofs.Common.{◌≡◌, ◌≤◌, ◌∙◌, List, ap, false, get_or, length, subst, sym}
use Rattle.std.specs.List.{All}
use Rattle.std.proofs.lemmas.List.{take_all}
use Rattle.image_reasons.specs.declared.repair.Side.TheVariants.{Before}
use Rattle.moves.specs.declared.one_move.Move.{Move}
use Rattle.moves.specs.Moves.{moves_of}
use Rattle.moves.specs.Tried.{IsVain}
use Rattle.moves.proofs.FirstMoves.{none_told, one_more}
use Rattle.moves.proofs.trying.first_move.Goals as goal

-- a move of nothing
abbrev nowhere : Move
nowhere = record { from = record { processor = 0; recovering = false; place = 0 }; side = Before; to = 0 }

pub loop-one-preserved : goal.loop-one-preserved
loop-one-preserved g c =
    let object = c.args.object.now in
    let moves = moves_of object in
    let same : c.deref-one-items.result.now ≡ moves = c.deref-one-items.ensures.value ∙ c.in_ok-moves.ensures in
    one_more (IsVain c.args.question.now c.args.limit object) moves _ c.loop-one.one-index nowhere same c.loop-one-test.true c.loop-one.invariant
    (none_told c.args.question.now c.args.limit object (get_or c.deref-one-items.result.now c.loop-one.one-index nowhere) c.in_ok-put.field-0 c.in_ok-put.ensures c.in_default.is)

pub returns : goal.returns
returns g c =
    let object = c.args.object.now in
    let moves = moves_of object in
    let at = c.loop-one.one-index in
    let same : c.deref-one-items.result.now ≡ moves = c.deref-one-items.ensures.value ∙ c.in_ok-moves.ensures in
    let past : length moves ≤ at = subst (λ (xs : List Move). length xs ≤ at) same c.loop-one-test.false in (
      c.len.ensures ∙ sym c.deref-one-items.ensures.len ∙ ap length same,
      subst (λ (xs : List Move). All (IsVain c.args.question.now c.args.limit object) xs) (take_all at moves past) c.loop-one.invariant,
    )
