use Rattle.std.proofs.Common.{◌≡◌, ◌++◌, drop, map}
use Rattle.serde_json.specs.View.{view}
use Rattle.machine.specs.Programs.{AreSiblings}
use Rattle.json_texts.specs.Objects.{json_of}
use Rattle.json_jobs.specs.NextReports.{next_data}
use Rattle.json_jobs.proofs.next_report.push_all_next.Given as goal

abbrev pub invariant-loop-step : goal.invariant-loop-step
invariant-loop-step l = record {
  items : map view l.items.items ++ map json_of (map (next_data l.source l.states l.given l.origins l.machine) (drop l.step-index l.steps))
      ≡ map view l.fn.items.items ++ map json_of (map (next_data l.source l.states l.given l.origins l.machine) l.steps);
  siblings : AreSiblings l.spare l.machine;
}
