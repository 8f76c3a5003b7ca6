use Rattle.std.proofs.Common.{◌-◌, ap}
use Rattle.std.proofs.lemmas.Iterator.Consumers.{nth_from_yields_List, YieldsList-from_first}
use Rattle.text_tokens.specs.Text.{lines_of}
use Rattle.line_forms.proofs.places.line.Goals as goal

pub returns-clause-line : goal.returns-clause-line
returns-clause-line c = λ _. nth_from_yields_List c.nth.result c.nth.new.self (c.args.number - 1) c.nth.ensures.ran
    (YieldsList-from_first (λ x. x.now) (λ s. lines_of s.rest.now) {s = c.new.result} (lines_of c.args.text.now) (ap lines_of c.new.ensures.rest))
