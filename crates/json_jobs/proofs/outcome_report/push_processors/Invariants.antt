use Rattle.std.proofs.Common.{◌≡◌, ◌++◌, ◌-◌, map}
use Rattle.serde_json.specs.View.{view}
use Rattle.json_texts.specs.Objects.{json_of}
use Rattle.json_jobs.specs.RunReports.{behind_processors, processors_from}
use Rattle.json_jobs.proofs.outcome_report.push_processors.Given as goal

abbrev pub invariant-loop-p : goal.invariant-loop-p
invariant-loop-p l = record {
  items : map view l.items.items ++ map json_of (processors_from (l.processors - l.p) l.p l.rest)
      ≡ map view l.fn.items.items ++ map json_of (processors_from l.processors 0 l.numbers);
  behind : behind_processors (l.processors - l.p) l.rest ≡ behind_processors l.processors l.numbers;
}
