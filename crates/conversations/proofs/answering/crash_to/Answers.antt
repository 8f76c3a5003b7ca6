use Rattle.std.proofs.Common.{◌≡◌, ◌∙◌, ℕ, List, Some, ap, sym}
use Rattle.images.specs.Images.{closed_set_of}
use Rattle.conversations.proofs.AnswersGiven.{crashed_so}
use Rattle.conversations.proofs.answering.crash_to.Goals as goal

pub returns-in-Some-clause-answers : goal.returns-in-Some-clause-answers
returns-in-Some-clause-answers g c =
    let found : Some c.in-Some.places.items ≡ closed_set_of c.args.session.now.past.state c.args.image.now = rw (c.look.ensures, c.in-Some.is) at c.in_ok-found.ensures.value in
    let is : closed_set_of c.args.session.now.past.state c.args.image.now ≡ Some c.deref.result.now = sym found ∙ ap (λ (x : List ℕ). Some x) (sym c.deref.ensures.value) in
    crashed_so c.args.lined.now _ _ (closed_set_of c.args.session.now.past.state c.args.image.now) c.deref.result.now _ c.crash_after.result is c.crash_after.ensures.answers
