use Rattle.std.proofs.Common.{◌≡◌, ◌++◌, List, ℕ, ◌∙◌}
use Rattle.machine.specs.State.{State}
use Rattle.images.specs.Images.{image_at}
use Rattle.explore.specs.Codes.{coded}
use Rattle.explore.specs.Keys.{canonical_key}
use Rattle.explore.proofs.KeysAreWritten.{coded_then}
use Rattle.explore.proofs.key.push_canonical.Goals as goal

pub returns : goal.returns
returns c =
    let s : State = c.args.view.now in
    let was : List ℕ = c.args.bytes.now.items in
    let one : List ℕ = c.push_pending_list.new.bytes.items in
    let last : List ℕ = c.push_image_bytes.new.bytes.items in
    let image : last ≡ one ++ coded (image_at s.shape s.memory.persisted) = c.in_ok-push_image_bytes.ensures ∙ (λ k. one ++ coded (image_at (c.pending.ensures k).shape (c.pending.ensures k).memory.persisted)) in
    coded_then was one last (canonical_key s) (image_at s.shape s.memory.persisted) c.in_ok-push_pending_list.ensures image
