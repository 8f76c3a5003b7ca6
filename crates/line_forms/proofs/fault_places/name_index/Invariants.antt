use Rattle.std.proofs.Common.{◌≡◌, drop, map}
use Rattle.text_tokens.specs.Text.{tokens_of}
use Rattle.line_forms.specs.FaultPlaces.{name_index}
use Rattle.line_forms.specs.Slots.{spot_of}
use Rattle.line_forms.proofs.fault_places.name_index.Given as goal

abbrev pub invariant-loop-form : goal.invariant-loop-form
invariant-loop-form l = name_index (map (λ form. map spot_of form.now) (drop l.form-index l.forms)) (tokens_of l.line) ≡ name_index (map (λ form. map spot_of form.now) l.forms) (tokens_of l.line)
