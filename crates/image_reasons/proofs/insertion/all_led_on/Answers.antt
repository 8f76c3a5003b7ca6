use Rattle.std.proofs.Common.{List, ◌∷◌, [], ◌++◌, ◌∙◌, ap, sym, map, take, length, ◌<◌, rules}
use Rattle.std.proofs.lemmas.List.{map_more}
use Rattle.std.proofs.lemmas.Option.{get_or_from_slice_get}
use Rattle.isa.specs.declared.instr.Instr.{Instr}
use Rattle.isa.specs.declared.instr.Instr.TheVariants.{Nop}
use Rattle.image_reasons.specs.Repairs.{led_on}
use Rattle.image_reasons.proofs.insertion.all_led_on.Goals as goal

pub loop-at-preserved : goal.loop-at-preserved
loop-at-preserved c =
    let place = c.args.place in
    let code = c.args.program.now in
    let at = c.loop-at.at in
    let same = get_or_from_slice_get code at c.unwrap-instr.result Nop (sym c.get.ensures.value ∙ c.unwrap-instr.ensures) in
    let within : at < length code = search rules in
    c.in_ok-extend_from_slice.ensures.items
    ∙ (ap (λ (before : List Instr). before ++ c.led_on.result ∷ []) c.loop-at.invariant
    ∙ (ap (λ (instr : Instr). map (led_on place) (take at code) ++ instr ∷ []) (c.led_on.ensures ∙ ap (led_on place) (sym same))
    ∙ sym (map_more (led_on place) code at Nop within)))
