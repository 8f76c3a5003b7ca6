use Rattle.std.proofs.Common.{rules, ◌≤◌, ◌<◌, ◌+◌, ℕ, Some, None, Option, List, length, refl, sym, subst}
use Rattle.machine.specs.Limits.{max_turns}
use Rattle.machine.specs.State.{State}
use Rattle.persist_buffer.specs.State.{Pending}
use Rattle.pending_images.specs.Candidates.{candidates, most_candidates}
use Rattle.pending_images.specs.Images as pending
use Rattle.conditions.specs.Formulas.{Formula}
use Rattle.images.specs.Images.{IsListing}
use Rattle.images.specs.Firsts.{IsLeastImage}
use Rattle.images.specs.Truth.{holds_on}
use Rattle.std.specs.Prelude.{IfOk, not}
use Rattle.explore.specs.Visits.{AreKept, BreaksBy, IsSight}
use Rattle.explore.specs.Questions.{lists}
use Rattle.explore.proofs.Stops.{breaks_none, breaks_some, broken_sight, few_count}
use Rattle.explore.proofs.visit.look.Goals as goal

pub returns-then-branch : goal.returns-then-branch
returns-then-branch c = c.in_ok-lacks_turns.ensures.some c.if-branch.true c.args.question.now

pub returns-in-Some-breaking : goal.returns-in-Some-breaking
returns-in-Some-breaking c =
    let q = c.args.question.now in
    let s = c.view-view.result in
    let few : candidates s.memory.pending ≤ most_candidates = c.in-Some.ensures.few.0 refl in
    let listed = subst (λ (p : Pending). pending.IsListing p.shape p.memory c.in_ok-images.images.items) c.in-Some.ensures.same c.in_ok-images.ensures.listing in
    let listing : IsListing s c.deref.result.now = subst (IsListing s) (sym c.deref.ensures.value) listed in
    let image = c.in-Some-breaking.image.now in
    let found = subst (λ (all : Option Formula). BreaksBy all s (Some image)) c.of_all.ensures (c.in-Some-breaking.ensures listing) in
    let (condition, asked, least) = breaks_some q.all s image found in
    let shown = subst (λ (image : List ℕ). IsLeastImage s (λ other. not (holds_on s condition other)) (Some image)) (sym c.in_ok-copy.ensures) least in
    subst (λ (x : State). IfOk c.broken.result (λ sight. IsSight q x c.args.node.now.path sight)) c.view-view.ensures
    (broken_sight q condition s c.args.node.now.path c.in_ok-copy.field-0 c.broken.result c.broken.ensures asked (few_count (lists q) condition s few) shown)

pub returns : goal.returns
returns c =
    let q = c.args.question.now in
    let s = c.view-view.result in
    let listed = subst (λ (p : Pending). pending.IsListing p.shape p.memory c.in_ok-images.images.items) c.in-Some.ensures.same c.in_ok-images.ensures.listing in
    let listing : IsListing s c.deref.result.now = subst (IsListing s) (sym c.deref.ensures.value) listed in
    let turns : s.turns + length s.memory.pending < max_turns = search rules in
    let none = subst (λ (all : Option Formula). BreaksBy all s None) c.of_all.ensures (c.in_default-breaking.ensures listing) in
    subst (λ (x : State). AreKept q x c.in_ok-images.images.items) c.view-view.ensures (record {
      turns = turns;
      listing = λ asked. listed;
      kept = λ condition asked. breaks_none q.all s none condition asked;
    })
