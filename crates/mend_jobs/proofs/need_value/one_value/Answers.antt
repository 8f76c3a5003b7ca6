use Rattle.std.proofs.Common.{rules, List, [], ◌∷◌}
use Rattle.serde_json.specs.declared.value.Value.{Null, the_lemmas}
use Rattle.json_texts.specs.ImageData.{names_data}
use Rattle.json_texts.specs.Objects.{list, null, IsJsonOf}
use Rattle.mend_jobs.specs.NeedData.{alone_name, conditions_data, said_data, source_of}
use Rattle.mend_jobs.proofs.need_value.one_value.Goals as goal

pub returns : goal.returns
returns c =
    let asked = c.args.asked.now in
    let one = c.args.one.now in
    let said = said_data (source_of asked) one (alone_name one.need) in
    let conditions : IsJsonOf (conditions_data asked.question c.args.found.now) c.in_ok-conditions.conditions = search rules in
    let words : IsJsonOf (names_data asked.object.layout) c.in_ok-words.words = search rules in
    let fences : IsJsonOf (list (said ∷ [])) c.in_ok-fences.fences = search rules in
    let nothing : IsJsonOf null Null = search (rules, the_lemmas) in
    c.held_value.ensures (conditions_data asked.question c.args.found.now) (names_data asked.object.layout) (list (said ∷ [])) null null null null
    conditions words fences nothing nothing nothing nothing
