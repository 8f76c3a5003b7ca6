use Rattle.std.proofs.Common.{◌^◌, ◌∙◌, Option, ap, sym, subst, option_copied, Bor}
use Rattle.clap.specs.Words.{Text}
use Rattle.px86.specs.CommandLines.{Finds, IsCountOr}
use Rattle.px86.proofs.options.count_of.Goals as goal

pub returns-in-Some : goal.returns-in-Some
returns-in-Some c =
    let asked = c.value.ensures ∙ ap (λ (found : Option (Bor Text)). option_copied found) c.in-Some.is in
    subst (λ (found : Option Text). Finds (IsCountOr (2 ^ 64) c.args.asked.default found) c.count.result) (sym asked) c.count.ensures
