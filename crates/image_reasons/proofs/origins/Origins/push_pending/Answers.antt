use Rattle.std.proofs.Common.{Option, List, [], ◌++◌, ap, ◌∙◌}
use Rattle.std.specs.List.{cons_option, filter_map, range_with_len}
use Rattle.image_reasons.specs.declared.missing.Missing.{Missing}
use Rattle.image_reasons.specs.Reasons.{missing_place}
use Rattle.image_reasons.proofs.PlacesFromNought.{gathered_behind}
use Rattle.image_reasons.proofs.origins.Origins.push_pending.Goals as goal

pub loop-place-preserved : goal.loop-place-preserved
loop-place-preserved c =
    let h = missing_place c.args.self.now c.args.stores.now c.args.shape.now c.args.image.now c.args.places.now in
    c.in_ok-push_some.ensures
    ∙ (ap (λ (xs : List Missing). xs ++ cons_option c.missing_at.result []) c.loop-place.invariant
    ∙ (ap (λ (found : Option Missing). (c.args.missing.now.items ++ filter_map h (range_with_len 0 c.loop-place.place)) ++ cons_option found []) c.missing_at.ensures ∙ gathered_behind h c.loop-place.place c.args.missing.now.items))
