use Rattle.std.proofs.Common.{◌++◌, List, ℕ, ap, ◌∙◌}
use Rattle.explore.specs.Codes.{coded}
use Rattle.explore.proofs.KeysAreWritten.{number_then}
use Rattle.explore.proofs.key.push_fallen_list.Goals as goal

pub returns : goal.returns
returns c =
    let values : List ℕ = c.args.image.now in
    let was : List ℕ = c.args.bytes.now.items in
    let one : List ℕ = c.push_number.new.bytes.items in
    let last : List ℕ = c.push_numbers.new.bytes.items in
    number_then was one last 0 values c.in_ok-push_number.ensures (c.in_ok-push_numbers.ensures ∙ ap (λ (xs : List ℕ). one ++ coded xs) c.values.ensures)
