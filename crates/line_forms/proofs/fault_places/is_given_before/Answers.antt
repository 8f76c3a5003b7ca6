use Rattle.std.proofs.Common.{◌∙◌, ap, rules}
use Rattle.std.specs.Prelude.{bytes_eq}
use Rattle.std.proofs.lemmas.Iterator.{YieldsList-from_take}
use Rattle.std.proofs.lemmas.Iterator.Adapters.{YieldsList-from_skip}
use Rattle.std.proofs.lemmas.Iterator.Consumers.{YieldsList-from_first}
use Rattle.std.proofs.lemmas.Iterator.Search.{any_from_yields_List}
use Rattle.text_tokens.specs.Text.{tokens_of}
use Rattle.line_forms.proofs.fault_places.is_given_before.Goals as goal

pub returns : goal.returns
returns c = any_from_yields_List (λ other. bytes_eq other c.args.name.now) c.any.new.self _ _ c.any.ensures.ran
    (YieldsList-from_skip 1
    (YieldsList-from_take c.args.index
    (YieldsList-from_first (λ x. x.now) (λ s. tokens_of s.rest.now) (tokens_of c.args.line.now)
    (ap (λ s. tokens_of s.iter.rest.now) c.skip.ensures.source ∙ ap (λ s. tokens_of s.rest.now) c.take.ensures.source ∙ ap tokens_of c.new.ensures))
    (ap (λ s. s.n) c.skip.ensures.source ∙ c.take.ensures.count))
    c.skip.ensures.count)
    (λ a b q k. search rules)
