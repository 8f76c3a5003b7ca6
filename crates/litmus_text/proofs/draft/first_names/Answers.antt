use Rattle.std.proofs.Common.{ap}
use Rattle.std.proofs.lemmas.Iterator.{YieldsList-from_take}
use Rattle.std.proofs.lemmas.Iterator.Consumers.{YieldsList-from_first, map_from_collect}
use Rattle.text_tokens.specs.Text.{tokens_of}
use Rattle.litmus_text.proofs.draft.first_names.Goals as goal

pub returns : goal.returns
returns c = map_from_collect c.collect.result c.collect.ensures.ran
    (YieldsList-from_take 9
    (YieldsList-from_first (λ x. x.now) (λ s. tokens_of s.rest.now) (tokens_of c.args.tokens.rest.now)
    (ap (λ s. tokens_of s.rest.now) c.take.ensures.source))
    c.take.ensures.count)
