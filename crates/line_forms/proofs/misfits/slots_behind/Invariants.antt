use Rattle.std.proofs.Common.{◌≡◌, ◌++◌, drop, map}
use Rattle.std.specs.Prelude.{◌==◌, filter}
use Rattle.text_tokens.specs.Text.{tokens_of}
use Rattle.line_forms.specs.Misfits.{fitting, forms_of, spot_at}
use Rattle.line_forms.specs.Slots.{spot_of}
use Rattle.line_forms.proofs.misfits.slots_behind.Given as goal

abbrev pub invariant-loop-form : goal.invariant-loop-form
invariant-loop-form l =
    map spot_of l.slots.items ++ map (spot_at l.index) (filter (λ form. fitting form (tokens_of l.line) == l.index) (forms_of (drop l.form-index l.forms)))
    ≡ map (spot_at l.index) (filter (λ form. fitting form (tokens_of l.line) == l.index) (forms_of l.forms))
