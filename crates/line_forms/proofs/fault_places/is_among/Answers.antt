use Rattle.std.proofs.Common.{refl, rules}
use Rattle.std.specs.Prelude.{bytes_eq}
use Rattle.std.proofs.lemmas.Iterator.Consumers.{YieldsList-from_first}
use Rattle.std.proofs.lemmas.Iterator.Search.{any_from_yields_List}
use Rattle.text_tokens.specs.Text.{tokens_of}
use Rattle.line_forms.proofs.fault_places.is_among.Goals as goal

pub returns : goal.returns
returns c = any_from_yields_List (λ other. bytes_eq other c.args.name.now) c.any.new.self _ _ c.any.ensures.ran
    (YieldsList-from_first (λ x. x.now) (λ s. tokens_of s.rest.now) {s = c.args.tokens} (tokens_of c.args.tokens.rest.now) refl)
    (λ a b q k. search rules)
