use Rattle.std.proofs.Common.{◌≡◌, ◌++◌, drop, map}
use Rattle.serde_json.specs.View.{view}
use Rattle.json_texts.specs.Objects.{json_of}
use Rattle.mend_jobs.specs.MendData.{told_put}
use Rattle.mend_jobs.proofs.mend_value.set_value.Given as goal

abbrev pub invariant-loop-repair : goal.invariant-loop-repair
invariant-loop-repair l =
    map view l.items.items ++ map json_of (map (told_put l.source l.made) (drop l.repair-index l.set))
    ≡ map json_of (map (told_put l.source l.made) l.set)
