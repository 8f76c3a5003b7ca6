use Rattle.std.proofs.Common.{◌≡◌, ◌∙◌, ap, Some}
use Rattle.std.specs.Prelude.{slice_get}
use Rattle.std.proofs.lemmas.Option.{slice_get-get_or}
use Rattle.store_buffer.specs.declared.entry.Entry.{Entry}
use Rattle.store_buffer.specs.declared.entry.Entry.TheVariants.{Sfence}
use Rattle.store_buffer.proofs.FreePlaces.{free_to_fence}
use Rattle.store_buffer.proofs.holders.free_places.Goals as goal

pub returns-in-Sfence : goal.returns-in-Sfence
returns-in-Sfence c =
    let fence : slice_get c.args.entries.now c.loop-place.place ≡ Some Sfence = slice_get-get_or c.args.entries.now c.loop-place.place _ c.loop-place-test.true ∙ ap (λ (e : Entry). Some e) (c.in-Sfence.is) in
    c.with_place-free.ensures ∙ free_to_fence c.args.entries.now c.loop-place.place c.loop-place-test.true fence
