use Rattle.std.proofs.Common.{◌≡◌, ◌<◌, ◌++◌, List, get_or, length, ap, subst, ◌∙◌}
use Rattle.isa.specs.declared.instr.Instr.{Instr}
use Rattle.image_reasons.specs.declared.entries.Site.{Site}
use Rattle.candidates.specs.Candidates.{candidates_at}
use Rattle.candidates.proofs.CandidatesByPlace.{behind, grown_by_place}
use Rattle.candidates.proofs.listed.push_candidates.Goals as goal

pub loop-place-preserved : goal.loop-place-preserved
loop-place-preserved c =
    let code = c.args.program.now in
    let at = c.loop-place.place in
    let instr = c.instr-item.result in
    let old = c.loop-place.candidates.items in
    let site : Site = record { processor = c.args.processor; recovering = c.args.recovering; place = at } in
    let same = c.instructions-instr-items.ensures.value in
    let within : at < length code = subst (λ (xs : List Instr). at < length xs) same c.loop-place-test.true in
    let read : instr ≡ get_or code at instr = c.instr-item.is ∙ ap (λ (xs : List Instr). get_or xs at instr) same in
    grown_by_place (behind c.args.processor c.args.recovering) code at instr old _ _ within c.loop-place.invariant
    (c.in_ok-push_behind.ensures ∙ ap (λ (i : Instr). old ++ candidates_at site i) read)
