use Rattle.std.proofs.Common.{◌≡◌, ◌<◌, ◌++◌, false, true, List, get_or, length, ap, subst, ◌∙◌, append_assoc}
use Rattle.isa.specs.declared.programs.Programs.{Programs}
use Rattle.moves.specs.declared.one_move.Move.{Move}
use Rattle.moves.specs.Moves.{moves_by, moves_in}
use Rattle.moves.proofs.MovesByPlace.{by_processor, grown_by_place}
use Rattle.moves.proofs.listed.moves_of.Goals as goal

pub loop-processor-preserved : goal.loop-processor-preserved
loop-processor-preserved c =
    let processors = c.args.object.now.processors in
    let at = c.loop-processor.processor in
    let programs = c.programs-item.result in
    let old = c.loop-processor.moves.items in
    let mains = moves_in at false programs.main in
    let recoveries = moves_in at true programs.recovery in
    let same = c.processors-programs-items.ensures.value in
    let within : at < length processors = subst (λ (xs : List Programs). at < length xs) same c.loop-processor-test.true in
    let read : programs ≡ get_or processors at programs = c.programs-item.is ∙ ap (λ (xs : List Programs). get_or xs at programs) same in
    grown_by_place by_processor processors at programs old _ _ within c.loop-processor.invariant
    (c.in_ok-push_moves-2.ensures ∙ ap (λ (xs : List Move). xs ++ recoveries) c.in_ok-push_moves.ensures ∙ append_assoc old mains recoveries
    ∙ ap (λ (p : Programs). old ++ moves_by at p) read)
