use Rattle.std.proofs.Common.{◌≡◌, ◌+◌, drop, map}
use Rattle.text_tokens.specs.Text.{tokens_of}
use Rattle.line_forms.specs.Misfits.{fitting}
use Rattle.line_forms.specs.Slots.{spot_of}
use Rattle.line_forms.proofs.forms.fitting.Given as goal

abbrev pub invariant-loop-index : goal.invariant-loop-index
invariant-loop-index l = l.index + fitting (map spot_of (drop l.index l.form)) (tokens_of l.tokens.rest.now) ≡ fitting (map spot_of l.form) (tokens_of l.line)
