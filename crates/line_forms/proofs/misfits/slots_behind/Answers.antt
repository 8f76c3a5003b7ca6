use Rattle.std.proofs.Common.{◌≡◌, ◌∙◌, ap, append-nil, append_assoc, arith, map}
use Rattle.std.specs.Prelude.{◌==◌, filter}
use Rattle.std.specs.List.{dedup}
use Rattle.std.proofs.lemmas.Grind.{common_steps}
use Rattle.std.proofs.lemmas.List.{map-append}
use Rattle.std.proofs.lemmas.List.Filters.{dedup_is}
use Rattle.text_tokens.specs.Text.{tokens_of}
use Rattle.line_forms.specs.Misfits.{fitting, forms_of, spot_at}
use Rattle.line_forms.specs.Slots.{same_spot, spot_of}
use Rattle.line_forms.proofs.SlotsBehind.{at_read, once_read, same_slot}
use Rattle.line_forms.proofs.misfits.slots_behind.Goals as goal

pub loop-form-preserved : goal.loop-form-preserved
loop-form-preserved c = grind (arith, common_steps, map-append, append_assoc, at_read, c.loop-form.invariant)

pub returns : goal.returns
returns c =
    let all : map spot_of c.loop-form.slots.items ≡ map (spot_at c.args.index) (filter (λ form. fitting form (tokens_of c.args.line.now) == c.args.index) (forms_of c.args.forms.now)) =
    grind (arith, common_steps, append-nil, c.loop-form.invariant) in
    ap (map spot_of) (dedup_is same_slot c.loop-form.slots.items _ c.dedup.ensures.filtered) ∙ once_read c.loop-form.slots.items ∙ ap (dedup same_spot) all
