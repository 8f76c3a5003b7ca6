use Rattle.std.proofs.Common.{◌∙◌, ◌≡◌, ℕ, Bool, None, List, Option, ap, subst, sym}
use Rattle.machine.specs.declared.step.Step.{Step}
use Rattle.explore.specs.declared.gathered.Gathered.{Gathered}
use Rattle.explore.specs.declared.visit.Sight.{Sight}
use Rattle.explore.specs.declared.visit.Stop.{Stop}
use Rattle.explore.specs.Ahead.{counts_locals}
use Rattle.explore.specs.Found.{Found, TriesAll, moves_of, tries_of}
use Rattle.explore.specs.Gathered.{if_asked, runs_behind_all, with_images}
use Rattle.explore.specs.Sets.{included_all}
use Rattle.explore.specs.Visits.{AreEndsSeen, GoesOnIf, IsLook, IsSightOnce, IsWhole, fallen_if}
use Rattle.explore.proofs.Endings.{goes_if, look_turns, whole_by}
use Rattle.explore.proofs.MovesAreAll.{moves_move}
use Rattle.explore.proofs.Stops.{lacks_room}
use Rattle.explore.proofs.TriesGoOn.{none_is}
use Rattle.explore.proofs.search.try_all.Goals as goal

pub returns-then-is_some-clause-tried : goal.returns-then-is_some-clause-tried
returns-then-is_some-clause-tried c = λ sound.
    let q = c.args.question.now in
    let node = c.args.search.now.node in
    let tried = c.in_ok-tried.tried in
    lacks_room q c.args.locals node.state node.path (moves_of node.state) tried.lacks c.args.search.now.found c.try_steps.new.found (moves_move node.state)
    (sym c.is_some.ensures ∙ c.if-is_some.true) (sym c.in_ok-tried.ensures.tried)

pub returns-clause-tried : goal.returns-clause-tried
returns-clause-tried c = λ sound.
    let q = c.args.question.now in
    let node = c.args.search.now.node in
    let s = node.state in
    let path = node.path in
    let old = c.args.search.now.found in
    let before = c.args.search.now.gathered in
    let mid = c.try_steps.new.found in
    let ran = c.try_steps.new.ran in
    let tried = c.in_ok-tried.tried in
    let left = c.leaves-left.result in
    let images = c.in-Go.images.items in
    let none : tried.lacks ≡ None = none_is _ (sym c.is_some.ensures ∙ c.if-is_some.false) in
    let looked = c.look_once.new.looked in
    let look : IsLook left (counts_locals q) q s images before.looked looked =
    subst (λ (b : Bool). IsLook left b q s images before.looked looked) c.requires.locals
    (subst (λ (sight : Sight). IsSightOnce left c.args.locals q s path before.looked looked sight) c.in-Go.is c.in_ok-stop.ensures) in
    let turns = look_turns left (counts_locals q) q s images before.looked looked look in
    let seen = subst (λ (stop : Option Stop). AreEndsSeen q s path (record before { ran = ran; looked = looked }) stop c.look_at_ends.new.gathered) c.in_default.is (c.in_ok-ends.ensures.seen sound turns) in
    let same : c.args.locals ≡ counts_locals q = c.requires.locals in
    let on = subst (λ (b : Bool). GoesOnIf tried.goes_on b node old mid) same c.in_ok-tried.ensures.on in
    let tries = subst (λ (b : Bool). TriesAll b node (moves_of s) old mid tried.lacks) same c.in_ok-tried.ensures.tried in
    let runs = subst (λ (b : Bool). ran ≡ included_all before.ran (runs_behind_all b s (moves_of s))) same (c.in_ok-tried.ensures.ran none) in
    let goes = goes_if q node old mid tried.goes_on left c.sets.result c.leaves-left.ensures c.sets.ensures on in
    let all : ◌≡◌ {A = Option Step × Found} (tries_of (counts_locals q) s path (moves_of s) old) (None, mid) = sym tries ∙ ap (λ (lacks : Option Step). (lacks, mid)) none in
    let falls = c.in_ok-fall_if.ensures ∙ ap (λ (xs : List (List ℕ)). fallen_if q.crashes s path xs mid) c.deref-2.ensures.value in
    let noted = c.in_ok-note_images.ensures ∙ ap (λ (xs : List (List ℕ)). with_images c.look_at_ends.new.gathered (if_asked q.images xs)) c.deref.ensures.value in
    subst (λ (g : Gathered). IsWhole q s path old before c.fall_if.new.found g) (sym noted)
    (whole_by q s path images ran looked old mid c.fall_if.new.found before c.look_at_ends.new.gathered left look goes runs seen all falls)
