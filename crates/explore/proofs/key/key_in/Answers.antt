use Rattle.std.proofs.Common.{◌≡◌, ◌++◌, Bool, List, ℕ, ap, ◌∙◌}
use Rattle.std.proofs.lemmas.Result.{IfOk-weaker}
use Rattle.machine.specs.State.{State}
use Rattle.explore.specs.Keys.{key_of, memory_key, processors_key}
use Rattle.explore.proofs.KeysAreWritten.{coded_then}
use Rattle.explore.proofs.key.key_in.Goals as goal

pub returns : goal.returns
returns c =
    let s : State = c.args.view.now in
    let sets : Bool = c.args.sets in
    let none : List ℕ = c.clear.new.self.items in
    let one : List ℕ = c.push_processors.new.bytes.items in
    let all : List ℕ = c.push_memory.new.bytes.items in
    let key : all ≡ none ++ key_of sets s = coded_then none one all (processors_key s.processors) (memory_key sets s) c.in_ok-push_processors.ensures c.in_ok-push_memory.ensures in
    IfOk-weaker c.of.result _ _ (λ found is. is ∙ c.deref.ensures.value ∙ key ∙ ap (λ (xs : List ℕ). xs ++ key_of sets s) c.clear.ensures.items) c.of.ensures
