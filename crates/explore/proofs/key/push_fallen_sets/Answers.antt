use Rattle.std.proofs.Common.{◌≡◌, ◌++◌, List, ℕ, ap, ◌∙◌}
use Rattle.machine.specs.State.{State}
use Rattle.persist_buffer.specs.State.{Pending}
use Rattle.explore.specs.Codes.{coded}
use Rattle.explore.specs.Keys.{none_key}
use Rattle.explore.proofs.KeysAreWritten.{coded_then}
use Rattle.explore.proofs.key.push_fallen_sets.Goals as goal

pub returns : goal.returns
returns c =
    let s : State = c.args.view.now in
    let values : List ℕ = c.args.image.now in
    let was : List ℕ = c.args.bytes.now.items in
    let one : List ℕ = c.push_numbers.new.bytes.items in
    let last : List ℕ = c.push_no_others.new.bytes.items in
    let image : one ≡ was ++ coded values = c.in_ok-push_numbers.ensures ∙ ap (λ (xs : List ℕ). was ++ coded xs) c.values.ensures in
    let none : last ≡ one ++ coded (none_key s.shape) = c.in_ok-push_no_others.ensures ∙ ap (λ (xs : List ℕ). one ++ coded (none_key xs)) (c.shape.ensures ∙ ap (λ (p : Pending). p.shape) c.pending.ensures) in
    coded_then was one last values (none_key s.shape) image none
