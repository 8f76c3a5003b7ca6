use Rattle.std.proofs.Common.{rules}
use Rattle.serde_json.specs.declared.value.Value.{the_lemmas}
use Rattle.json_texts.specs.Objects.{boolean, num, IsJsonOf}
use Rattle.mend_jobs.proofs.need_value.counted_value.Goals as goal

pub returns : goal.returns
returns c told words fences is_told is_words is_fences =
    let keep : IsJsonOf (num c.args.keep) c.from.result = search (rules, the_lemmas) in
    let all : IsJsonOf (num c.args.of) c.from-2.result = search (rules, the_lemmas) in
    let no_more : IsJsonOf (boolean c.args.no_more) c.from-3.result = search (rules, the_lemmas) in
    let least : IsJsonOf (boolean c.args.least) c.from-4.result = search (rules, the_lemmas) in
    c.held_value.ensures told words fences (num c.args.keep) (num c.args.of) (boolean c.args.no_more) (boolean c.args.least)
    is_told is_words is_fences keep all no_more least
