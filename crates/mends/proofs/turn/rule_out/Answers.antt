use Rattle.std.proofs.Common.{rules, ◌≡◌, Bool, List, refl, subst, sym}
use Rattle.mends.specs.declared.search.Search.{Search}
use Rattle.mends.specs.Searches.{IsBound}
use Rattle.mends.proofs.Searched.{bound_settles, ruled_more}
use Rattle.mends.proofs.turn.rule_out.Goals as goal

pub returns : goal.returns
returns c =
    let task = c.args.task.now in
    let question = task.question.now in
    let object = task.object.now in
    let choice = c.args.choice.now in
    let old = c.args.search.now in
    let new : Search = record { queue = old.queue; ruled = c.push.new.self; untold = old.untold } in
    let bound = c.in_ok-bound.bound in
    let copy = c.in_ok-to_vec.field-0 in
    let same : copy.items ≡ bound.items = search rules in
    let broken = c.in_ok-bound.ensures.broken in (
      ruled_more question task.limit object old new choice copy c.requires.turn (subst (λ (flags : List Bool). IsBound question object flags) (sym same) broken) refl refl
          c.in_ok-push.ensures.items,
      bound_settles question task.limit object c.candidates_are_sets.ensures c.more_put_in_breaks_no_more.ensures.breaks new choice bound.items broken
          c.in_ok-bound.ensures.within,
      refl,
    )
