use Rattle.std.proofs.Common.{◌++◌, ap, ◌∙◌}
use Rattle.isa.specs.declared.instr.Instr.{Instr}
use Rattle.image_reasons.specs.declared.entries.Site.{Site}
use Rattle.moves.specs.Moves.{moves_at}
use Rattle.moves.proofs.MovesByPlace.{at_place, grown_by_place}
use Rattle.moves.proofs.listed.push_moves.Goals as goal

pub loop-place-preserved : goal.loop-place-preserved
loop-place-preserved c =
    let code = c.instructions-code.result.now in
    let at = c.loop-place.place in
    let old = c.loop-place.moves.items in
    let site : Site = record { processor = c.args.processor; recovering = c.args.recovering; place = at } in
    grown_by_place (at_place code c.args.processor c.args.recovering) code at c.index-code-place.result old _ _ c.loop-place-test.true c.loop-place.invariant
    (c.in_ok-push_at.ensures ∙ ap (λ (i : Instr). old ++ moves_at code site i) c.index-code-place.is)
