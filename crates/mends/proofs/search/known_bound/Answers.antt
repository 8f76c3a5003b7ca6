use Rattle.std.proofs.Common.{rules, List, sym, subst}
use Rattle.mends.specs.declared.outcome.Open.{Open}
use Rattle.mends.specs.Mends.{IsLeftOpen}
use Rattle.mends.proofs.Searched.{settled_by_bound, settled_by_open, sizes_of_open}
use Rattle.mends.proofs.search.known_bound.Goals as goal

pub returns-in-Some : goal.returns-in-Some
returns-in-Some c =
    let task = c.args.task.now in
    settled_by_bound task.question.now task.limit task.object.now c.candidates_are_sets.ensures c.more_put_in_breaks_no_more.ensures.breaks c.args.search.now c.args.choice.now
    c.deref.result.now c.in-Some.place c.index.result.now c.in_ok-to_vec.field-0.items c.requires.known c.deref.ensures.value c.in-Some.ensures c.index.ensures (search rules)

pub open_among-requires : goal.open_among-requires
open_among-requires c =
    let task = c.args.task.now in
    sizes_of_open task.question.now task.limit task.object.now c.args.search.now c.args.choice.now c.deref-2.result.now c.requires.known c.requires.choice c.deref-2.ensures.value

pub returns-in-Some-open_among : goal.returns-in-Some-open_among
returns-in-Some-open_among c =
    let task = c.args.task.now in
    settled_by_open task.question.now task.limit task.object.now c.args.search.now c.args.choice.now c.deref-2.result.now c.in-Some-open_among.place
    c.index-in-Some-open_among.result.now c.in_ok-to_vec-2.field-0.items c.requires.known c.deref-2.ensures.value c.in-Some-open_among.ensures c.index-in-Some-open_among.ensures (search rules)

pub returns : goal.returns
returns c left = c.in_default-open_among.ensures (subst (λ (untold : List Open). IsLeftOpen untold c.args.choice.now) (sym c.deref-2.ensures.value) left)
