use Rattle.std.proofs.Common.{◌∙◌, rules}
use Rattle.px86.proofs.CheckSteps.{named}
use Rattle.px86.proofs.request.check_input.Goals as goal

pub returns-in-Some : goal.returns-in-Some
returns-in-Some c = named _ _ _ _ c.in-Some.field-0.now (search rules) (c.value.ensures ∙ search rules) c.input_given-in-Some.ensures
