use Rattle.std.proofs.Common.{ap}
use Rattle.std.proofs.lemmas.Iterator.Consumers.{nth_from_yields_List, YieldsList-from_first}
use Rattle.text_tokens.specs.Text.{tokens_of}
use Rattle.line_forms.proofs.fault_places.name_at.Goals as goal

pub returns : goal.returns
returns c = nth_from_yields_List c.nth.result c.nth.new.self c.args.index c.nth.ensures.ran
    (YieldsList-from_first (λ x. x.now) (λ s. tokens_of s.rest.now) {s = c.new.result} (tokens_of c.args.line.now) (ap tokens_of c.new.ensures))
