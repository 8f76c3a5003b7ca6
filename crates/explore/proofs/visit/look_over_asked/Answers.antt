use Rattle.std.proofs.Common.{◌≡◌, ◌∙◌, ◌≤◌, ℕ, Option, Some, None, false, not, refl, sym, subst, true≢false}
use Rattle.conditions.specs.Formulas.{Formula}
use Rattle.pending_images.specs.Candidates.{most_candidates}
use Rattle.images.specs.Firsts.{IsLeastImage}
use Rattle.images.specs.Truth.{holds_on}
use Rattle.explore.specs.Asked.{tried_candidates}
use Rattle.explore.specs.Questions.{lists}
use Rattle.explore.specs.Visits.{BreaksBy}
use Rattle.explore.proofs.Stops.{asked_count, breaks_none, broken_sight}
use Rattle.explore.proofs.visit.look_over_asked.Goals as goal

pub returns-in-Ok-Some : goal.returns-in-Ok-Some
returns-in-Ok-Some c =
    let q = c.args.question.now in
    let s = c.args.view.now in
    let f = c.in-Some.cond.now in
    let asked : q.all ≡ Some f = sym c.in-Some.ensures in
    let off : lists q ≡ false = sym c.lists.ensures ∙ c.if-lists.false in
    let few : tried_candidates (lists q) (Some f) s ≤ most_candidates = subst (λ (n : ℕ). n ≤ most_candidates) (sym (asked_count (lists q) (Some f) f s off refl)) c.in-Ok-Some.ensures.few in
    broken_sight q f s c.args.path.now c.in-Ok-Some.image c.broken.result c.broken.ensures asked few (subst (IsLeastImage s (λ other. not (holds_on s f other))) c.in-Ok-Some.field-0-is c.in-Ok-Some.ensures.least)

pub returns-in-Ok-None : goal.returns-in-Ok-None
returns-in-Ok-None c =
    let q = c.args.question.now in
    let s = c.args.view.now in
    let f = c.in-Some.cond.now in
    let off : lists q ≡ false = sym c.lists.ensures ∙ c.if-lists.false in
    let none = subst (λ (all : Option Formula). BreaksBy all s None) c.in-Some.ensures (subst (IsLeastImage s (λ other. not (holds_on s f other))) c.in-Ok-None.field-0-is c.in-Ok-None.ensures.least) in record {
      turns = c.requires.turns;
      listing = λ on. absurd (true≢false (sym on ∙ off));
      kept = λ condition asked. breaks_none q.all s none condition asked;
    }
