use Rattle.std.proofs.Common.{rules, ◌≡◌, ◌∷◌, [], ◌∙◌, ap, length}
use Rattle.choices.specs.Choices.{nothing}
use Rattle.mends.specs.declared.search.Search.{Search}
use Rattle.mends.proofs.SearchesBegin.{search_begins}
use Rattle.mends.proofs.mending.begun.Goals as goal

pub returns : goal.returns
returns c =
    let task = c.args.task.now in
    let search_of : Search = record { queue = c.push.new.self; ruled = c.push-2.new.self; untold = c.new-3.result } in
    let queue : c.push.new.self.items ≡ c.in_ok-first.first ∷ [] = search rules in
    let ruled : c.push-2.new.self.items ≡ c.in_ok-bound.bound ∷ [] = search rules in
    search_begins task.question.now task.limit task.object.now search_of c.in_ok-first.first c.in_ok-bound.bound
    (c.in_ok-first.ensures ∙ ap (λ cs. nothing (length cs)) c.requires.task.candidates) c.in_ok-bound.ensures.broken queue ruled c.new-3.ensures.items
