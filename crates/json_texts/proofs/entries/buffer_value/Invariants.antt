use Rattle.std.proofs.Common.{◌≡◌, ◌++◌, drop, map}
use Rattle.serde_json.specs.View.{view}
use Rattle.json_texts.specs.Objects.{json_of}
use Rattle.json_texts.specs.StateData.{buffer_from}
use Rattle.json_texts.proofs.entries.buffer_value.Given as goal

abbrev pub invariant-loop-place : goal.invariant-loop-place
invariant-loop-place l =
    map view l.items.items ++ map json_of (buffer_from l.source l.origins l.p l.place (drop l.place l.buffer))
    ≡ map json_of (buffer_from l.source l.origins l.p 0 l.buffer)
