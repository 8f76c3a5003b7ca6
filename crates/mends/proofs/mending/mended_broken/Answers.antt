use Rattle.std.proofs.Common.{◌≡◌, ◌∙◌, List, length, subst, sym}
use Rattle.image_reasons.specs.declared.repair.Repair.{Repair}
use Rattle.candidates.specs.Candidates.{candidates_of}
use Rattle.choices.specs.Choices.{nothing}
use Rattle.mends.specs.Searches.{IsBound}
use Rattle.mends.proofs.SearchesBegin.{nothing_breaks}
use Rattle.mends.proofs.mending.mended_broken.Goals as goal

pub first_mend-requires-clause-broken : goal.first_mend-requires-clause-broken
first_mend-requires-clause-broken g c = λ κs lives.
    let question = c.args.question.now in
    let object = c.args.object.now in
    let same : c.deref-2.result.now ≡ candidates_of object = c.deref-2.ensures.value ∙ c.in_ok-candidates.ensures in
    subst (λ (candidates : List Repair). IsBound question object (nothing (length candidates))) (sym same) (nothing_breaks question object c.requires)
