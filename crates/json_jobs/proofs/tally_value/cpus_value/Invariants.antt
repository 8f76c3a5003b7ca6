use Rattle.std.proofs.Common.{◌≡◌, ◌++◌, drop, map}
use Rattle.serde_json.specs.View.{view}
use Rattle.json_texts.specs.Objects.{json_of}
use Rattle.json_jobs.specs.TallyData.{cpus_from}
use Rattle.json_jobs.proofs.tally_value.cpus_value.Given as goal

abbrev pub invariant-loop-p : goal.invariant-loop-p
invariant-loop-p l =
    map view l.items.items ++ map json_of (cpus_from l.p (drop l.p l.registers))
    ≡ map json_of (cpus_from 0 l.registers)
