use Rattle.std.proofs.Common.{◌≡◌, Bool, sym, subst}
use Rattle.explore.specs.declared.node.Node.{Node}
use Rattle.explore.specs.Found.{Found, FollowsOwn, led_to}
use Rattle.explore.specs.declared.gathered.Gathered.{Gathered}
use Rattle.explore.specs.Gathered.{followed_runs}
use Rattle.explore.specs.Sets.{included_all}
use Rattle.explore.specs.Sound.{IsSound}
use Rattle.explore.specs.Visits.{IsTrial, MayBeToldFor}
use Rattle.explore.proofs.ExploringEnds.{followed_visit, has_none, none_found, none_noted, told_visit, trial_visit}
use Rattle.explore.proofs.SoundRuns.{of_itself, run_of_it}
use Rattle.explore.proofs.search.visit.Goals as goal

pub returns-then-has_own-clause-visit : goal.returns-then-has_own-clause-visit
returns-then-has_own-clause-visit c = λ limit sound way.
    let q = c.args.question.now in
    let start = c.args.start.now in
    let path = c.go.new.self.path in
    let s = c.go.new.self.state in
    let old = c.args.search.now.found in
    let before = c.args.search.now.gathered in
    let is : led_to start path ≡ s = sym c.in_ok-go.ensures.led in
    let locals = c.requires.locals in
    let (has, followed) = subst (λ (b : Bool). FollowsOwn b c.go.new.self old c.follow_node.new.found c.in_ok-has_own.has_own) locals c.in_ok-has_own.ensures.followed in
    let more = subst (λ (b : Bool). c.follow_node.new.ran ≡ included_all c.note_runs.new.ran (followed_runs b s)) locals c.in_ok-has_own.ensures.ran in
    followed_visit q start s path old before c.args.at sound way c.in_ok-go.ensures.path is c.follow_node.new.found c.follow_node.new.ran c.note_runs.new.ran c.in_ok-has_own.has_own c.if-has_own.true has followed
    c.in_ok-note_runs.ensures more

pub returns-clause-visit : goal.returns-clause-visit
returns-clause-visit c = λ limit sound way.
    let q = c.args.question.now in
    let start = c.args.start.now in
    let path = c.go.new.self.path in
    let s = c.go.new.self.state in
    let old = c.args.search.now.found in
    let before = c.args.search.now.gathered in
    let is : led_to start path ≡ s = sym c.in_ok-go.ensures.led in
    let locals = c.requires.locals in
    let (has, followed) = subst (λ (b : Bool). FollowsOwn b c.go.new.self old c.follow_node.new.found c.in_ok-has_own.has_own) locals c.in_ok-has_own.ensures.followed in
    let more = subst (λ (b : Bool). c.follow_node.new.ran ≡ included_all c.note_runs.new.ran (followed_runs b s)) locals c.in_ok-has_own.ensures.ran in
    let ran : Gathered = record before { ran = c.follow_node.new.ran } in
    let none = has_none q start s path old before c.args.at sound way c.in_ok-go.ensures.path is c.in_ok-has_own.has_own c.if-has_own.false has in
    let same = none_found q start s path old before c.args.at sound way c.in_ok-go.ensures.path is c.follow_node.new.found c.in_ok-has_own.has_own c.if-has_own.false followed in
    let noted = none_noted q start s path old before c.args.at sound way c.in_ok-go.ensures.path is c.follow_node.new.ran c.note_runs.new.ran none c.in_ok-note_runs.ensures more in
    let begun : IsSound s = subst IsSound is ((run_of_it start path start (of_itself start sound)).sound) in
    let tried = subst (λ (f : Found). IsTrial q s path f ran c.in_ok-stop.stop c.try_all.new.search.found c.try_all.new.search.gathered) same (c.in_ok-stop.ensures.tried begun) in
    told_visit q start s path old before c.args.at sound way c.in_ok-go.ensures.path is c.try_all.new.search.found c.try_all.new.search.gathered limit c.in_ok-stop.stop c.in_ok-told.told
    (trial_visit q start s path old before c.args.at sound way c.in_ok-go.ensures.path is c.try_all.new.search.found ran c.try_all.new.search.gathered limit c.in_ok-stop.stop none noted tried)
    (subst (λ (node : Node). MayBeToldFor q start node.path c.in_ok-stop.stop c.in_ok-told.told) c.in_ok-stop.ensures.node c.in_ok-told.ensures)
