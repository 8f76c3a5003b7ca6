use Rattle.std.proofs.Common.{rules, ◌≡◌, true, Option, List, [], ℕ, subst}
use Rattle.std.proofs.lemmas.List.{nil_from_length}
use Rattle.std.specs.Global.{Vec}
use Rattle.machine.specs.State.{State}
use Rattle.persist_buffer.specs.State.{Pending}
use Rattle.pending_images.specs.Images.{image_now}
use Rattle.pending_images.specs.LeastSets.{IsLeastIn, places_of}
use Rattle.images.specs.Images.{pending_of}
use Rattle.causes.proofs.Leads.{left_by_none}
use Rattle.causes.proofs.search.is_left.Goals as goal

pub returns-in-Some : goal.returns-in-Some
returns-in-Some c = λ empty.
    let least = subst (λ (found : Option (Vec ℕ)). IsLeastIn c.pending.result.now c.args.image.now (places_of found)) c.in-Some.is c.in_ok-places.ensures.least in
    let none : c.in-Some.places.items ≡ [] = nil_from_length c.in-Some.places.items (search rules) in
    let left = left_by_none c.pending.result.now c.args.image.now c.in-Some.places.items least none in
    let of_view = subst (λ (p : Pending). image_now p ≡ c.args.image.now) c.pending.ensures left in
    subst (λ (s : State). image_now (pending_of s) ≡ c.args.image.now) c.view.ensures of_view
