use Rattle.std.proofs.Common.{Result, subst, sym}
use Rattle.explore.specs.declared.verdict.Verdict.{Verdict}
use Rattle.explore.specs.declared.fault.ExploreFault.{ExploreFault}
use Rattle.explore.specs.Questions.{IsVerdict}
use Rattle.explore.proofs.AskedParts.{told_of_whole}
use Rattle.explore.proofs.asking.ask_apart.Goals as goal

-- src/asking.rt:119:1
pub returns : goal.returns
returns g c = λ sound.
    let question = c.args.question.now in
    let start = c.args.start.now in
    let parts = c.args.apart.now in
    subst (λ (told : Result Verdict ExploreFault). IsVerdict question start c.args.limit told) (sym c.told_of_both.ensures)
    (told_of_whole question parts.first parts.other start c.args.limit c.ask_part-first.result c.ask_part-other.result c.requires (c.ask_part-first.ensures sound) (c.ask_part-other.ensures sound))
