use Rattle.explore.proofs.ExploringEnds.{way_begins}
use Rattle.explore.proofs.search.explore_one.Goals as goal

pub returns-in-Ok : goal.returns-in-Ok
returns-in-Ok g c = λ sound.
    let q = c.args.question.now in
    let start = c.args.start.now in
    let search = c.in_ok-search.search in
    let (found, gathered) = c.in_ok-search.ensures.begun in
    c.verdict_of.ensures q start c.args.limit c.explore.new.search.found sound c.len.ensures
    (c.in-Ok.ensures sound (way_begins q start search.found search.gathered found gathered sound))
