use Rattle.std.proofs.Common.{◌∙◌, ap, rules}
use Rattle.std.proofs.lemmas.Iterator.{YieldsList-from_take}
use Rattle.std.proofs.lemmas.Iterator.Consumers.{YieldsList-from_first}
use Rattle.std.proofs.lemmas.Iterator.Search.{any_from_yields_List}
use Rattle.text_tokens.specs.Text.{lines_of, tokens_of}
use Rattle.line_forms.specs.FaultPlaces.{gives}
use Rattle.line_forms.proofs.fault_places.is_given_above.Goals as goal

pub returns : goal.returns
returns c = any_from_yields_List (λ line. gives c.args.name.now (tokens_of line)) c.any.new.self _ _ c.any.ensures.ran
    (YieldsList-from_take _ (YieldsList-from_first (λ x. x.now) (λ s. lines_of s.rest.now) (lines_of c.args.text.now) (ap (λ s. lines_of s.rest.now) c.take.ensures.source ∙ ap lines_of c.new.ensures.rest)) (c.take.ensures.count ∙ c.saturating_sub.ensures))
    (λ a b q k. search rules)
