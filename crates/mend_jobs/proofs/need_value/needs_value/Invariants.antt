use Rattle.std.proofs.Common.{◌≡◌, ◌++◌, drop, map}
use Rattle.serde_json.specs.View.{view}
use Rattle.json_texts.specs.Objects.{json_of}
use Rattle.mend_jobs.specs.NeedData.{need_data}
use Rattle.mend_jobs.proofs.need_value.needs_value.Given as goal

abbrev pub invariant-loop-one : goal.invariant-loop-one
invariant-loop-one l =
    map view l.items.items ++ map json_of (map (need_data l.source) (drop l.one-index l.needs))
    ≡ map json_of (map (need_data l.source) l.needs)
