use Rattle.std.proofs.Common.{◌≡◌, ◌<◌, ◌++◌, false, true, List, get_or, length, ap, subst, ◌∙◌, append_assoc}
use Rattle.isa.specs.declared.programs.Programs.{Programs}
use Rattle.image_reasons.specs.declared.repair.Repair.{Repair}
use Rattle.candidates.specs.Candidates.{candidates_by, candidates_in}
use Rattle.candidates.proofs.CandidatesByPlace.{grown_by_place, into}
use Rattle.candidates.proofs.listed.candidates.Goals as goal

pub loop-processor-preserved : goal.loop-processor-preserved
loop-processor-preserved c =
    let processors = c.args.object.now.processors in
    let at = c.loop-processor.processor in
    let programs = c.programs-item.result in
    let old = c.loop-processor.candidates.items in
    let mains = candidates_in at false programs.main in
    let recoveries = candidates_in at true programs.recovery in
    let same = c.processors-programs-items.ensures.value in
    let within : at < length processors = subst (λ (xs : List Programs). at < length xs) same c.loop-processor-test.true in
    let read : programs ≡ get_or processors at programs = c.programs-item.is ∙ ap (λ (xs : List Programs). get_or xs at programs) same in
    grown_by_place into processors at programs old _ _ within c.loop-processor.invariant
    (c.in_ok-push_candidates-2.ensures ∙ ap (λ (xs : List Repair). xs ++ recoveries) c.in_ok-push_candidates.ensures ∙ append_assoc old mains recoveries
    ∙ ap (λ (p : Programs). old ++ candidates_by at p) read)
