use Rattle.std.proofs.Common.{◌≡◌, ◌++◌, drop, map}
use Rattle.serde_json.specs.View.{view}
use Rattle.json_texts.specs.Objects.{json_of}
use Rattle.json_jobs.specs.QuestionData.{answered_data}
use Rattle.json_jobs.proofs.question_value.all_answered.Given as goal

abbrev pub invariant-loop-one : goal.invariant-loop-one
invariant-loop-one l =
    map view l.items.items ++ map json_of (map (answered_data l.options l.start) (drop l.one-index l.answers))
    ≡ map json_of (map (answered_data l.options l.start) l.answers)
