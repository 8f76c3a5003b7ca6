use Rattle.std.proofs.Common.{rules, map}
use Rattle.json_texts.specs.ImageData.{names_data}
use Rattle.json_texts.specs.Objects.{list, IsJsonOf}
use Rattle.mend_jobs.specs.NeedData.{conditions_data, need_data, source_of}
use Rattle.mend_jobs.proofs.need_value.each_value.Goals as goal

pub returns : goal.returns
returns c =
    let asked = c.args.asked.now in
    let told = list (map (need_data (source_of asked)) c.args.needs.now) in
    let conditions : IsJsonOf (conditions_data asked.question c.args.found.now) c.in_ok-conditions.conditions = search rules in
    let words : IsJsonOf (names_data asked.object.layout) c.in_ok-words.words = search rules in
    let fences : IsJsonOf told c.in_ok-fences.fences = search rules in
    let all = c.counted_value.ensures (conditions_data asked.question c.args.found.now) (names_data asked.object.layout) told conditions words fences in
    search rules
