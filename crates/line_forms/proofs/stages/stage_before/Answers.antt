use Rattle.std.proofs.Common.{◌∙◌, ap, rules}
use Rattle.std.proofs.lemmas.Iterator.{YieldsList-from_take}
use Rattle.std.proofs.lemmas.Iterator.Consumers.{fold_from_yields_List, YieldsList-from_first}
use Rattle.text_tokens.specs.Text.{lines_of, tokens_of}
use Rattle.line_forms.specs.Stages.{stage_after}
use Rattle.line_forms.proofs.stages.stage_before.Goals as goal

pub returns : goal.returns
returns c = fold_from_yields_List _ (λ stage line. stage_after stage (tokens_of line)) _ _ c.fold.ensures.ran
    (YieldsList-from_take _ (YieldsList-from_first (λ x. x.now) (λ s. lines_of s.rest.now) (lines_of c.args.text.now) (ap (λ s. lines_of s.rest.now) c.take.ensures.source ∙ ap lines_of c.new.ensures.rest)) (c.take.ensures.count ∙ c.saturating_sub.ensures))
    (λ a x b q k. search rules)
