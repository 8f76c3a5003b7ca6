use Rattle.std.proofs.Common.{◌≡◌, ℕ, ◌<◌, ◌++◌, false, true, List, get_or, take, length, append_assoc, sym, ap, subst, ◌∙◌, arith}
use Rattle.std.specs.List.{enumerate_from, flat_map}
use Rattle.isa.specs.declared.programs.Programs.{Programs}
use Rattle.image_reasons.specs.declared.entries.Site.{Site}
use Rattle.fence_needs.specs.Sites.{sites_by, sites_in}
use Rattle.fence_needs.proofs.SitesByPlace.{processor_added}
use Rattle.fence_needs.proofs.site_list.fences_of.Goals as goal

pub loop-processor-preserved : goal.loop-processor-preserved
loop-processor-preserved c =
    let processors = c.args.object.now.processors in
    let at = c.loop-processor.processor in
    let programs = c.programs-item.result in
    let before : List Site = flat_map (λ (e : ℕ × Programs). sites_by e.0 e.1) (enumerate_from 0 (take at processors)) in
    let mains = sites_in at false programs.main in
    let recoveries = sites_in at true programs.recovery in
    let same = c.processors-programs-items.ensures.value in
    let within : at < length processors = subst (λ (xs : List Programs). at < length xs) same (omega arith) in
    let read : programs ≡ get_or processors at programs = c.programs-item.is ∙ ap (λ (xs : List Programs). get_or xs at programs) same in
    let first = c.in_ok-push_sites.ensures ∙ ap (λ (xs : List Site). xs ++ mains) c.loop-processor.invariant in
    c.in_ok-push_sites-2.ensures ∙ ap (λ (xs : List Site). xs ++ recoveries) first ∙ append_assoc before mains recoveries
    ∙ ap (λ (p : Programs). before ++ sites_by at p) read ∙ sym (processor_added processors at programs within)
