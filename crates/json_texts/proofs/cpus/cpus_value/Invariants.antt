use Rattle.std.proofs.Common.{◌≡◌, ◌++◌, drop, map}
use Rattle.serde_json.specs.View.{view}
use Rattle.json_texts.specs.Objects.{json_of}
use Rattle.json_texts.specs.StateData.{cpus_from}
use Rattle.json_texts.proofs.cpus.cpus_value.Given as goal

abbrev pub invariant-loop-p : goal.invariant-loop-p
invariant-loop-p l =
    map view l.items.items ++ map json_of (cpus_from l.source l.origins l.p (drop l.p l.view.processors))
    ≡ map json_of (cpus_from l.source l.origins 0 l.view.processors)
