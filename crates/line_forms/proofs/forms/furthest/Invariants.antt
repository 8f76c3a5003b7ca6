use Rattle.std.proofs.Common.{◌≡◌, drop, map, max}
use Rattle.text_tokens.specs.Text.{tokens_of}
use Rattle.line_forms.specs.Misfits.{furthest}
use Rattle.line_forms.specs.Slots.{spot_of}
use Rattle.line_forms.proofs.forms.furthest.Given as goal

abbrev pub invariant-loop-form : goal.invariant-loop-form
invariant-loop-form l = max l.most (furthest (map (λ form. map spot_of form.now) (drop l.form-index l.forms)) (tokens_of l.line)) ≡ furthest (map (λ form. map spot_of form.now) l.forms) (tokens_of l.line)
