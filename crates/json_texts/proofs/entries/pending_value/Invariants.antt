use Rattle.std.proofs.Common.{◌≡◌, ◌++◌, drop, map}
use Rattle.serde_json.specs.View.{view}
use Rattle.json_texts.specs.Objects.{json_of}
use Rattle.json_texts.specs.StateData.{pending_from}
use Rattle.json_texts.proofs.entries.pending_value.Given as goal

abbrev pub invariant-loop-place : goal.invariant-loop-place
invariant-loop-place l =
    map view l.items.items ++ map json_of (pending_from l.source l.origins l.place (drop l.place l.pending))
    ≡ map json_of (pending_from l.source l.origins 0 l.pending)
