use Rattle.std.proofs.Common.{◌≡◌, ◌++◌, drop, map}
use Rattle.serde_json.specs.View.{view}
use Rattle.commands.specs.OutcomeTexts.{names_of}
use Rattle.json_texts.specs.Objects.{json_of}
use Rattle.json_jobs.specs.TallyData.{pairs_data}
use Rattle.json_jobs.proofs.tally_value.pairs_value.Given as goal

abbrev pub invariant-loop-line : goal.invariant-loop-line
invariant-loop-line l =
    map view l.items.items ++ map json_of (pairs_data (names_of (drop l.line-index l.layout)) l.rest)
    ≡ map json_of (pairs_data (names_of l.layout) l.pairs)
