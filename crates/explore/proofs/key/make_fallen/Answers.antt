use Rattle.std.proofs.Common.{◌≡◌, ◌++◌, Bool, List, ℕ, map, ap, ◌∙◌}
use Rattle.machine.specs.Processors.{restart_of}
use Rattle.machine.specs.State.{State}
use Rattle.explore.specs.Keys.{fallen_key, fallen_memory_key, processors_key}
use Rattle.explore.proofs.KeysAreWritten.{coded_then}
use Rattle.explore.proofs.key.make_fallen.Goals as goal

pub returns : goal.returns
returns c =
    let s : State = c.args.view.now in
    let sets : Bool = c.args.sets in
    let image : List ℕ = c.args.image.now in
    let none : List ℕ = c.clear.new.self.items in
    let one : List ℕ = c.push_restarted.new.bytes.items in
    let all : List ℕ = c.push_fallen.new.bytes.items in
    let key : all ≡ none ++ fallen_key sets s image = coded_then none one all (processors_key (map restart_of s.processors)) (fallen_memory_key sets s.shape image) c.in_ok-push_restarted.ensures c.in_ok-push_fallen.ensures in
    key ∙ ap (λ (xs : List ℕ). xs ++ fallen_key sets s image) c.clear.ensures.items
