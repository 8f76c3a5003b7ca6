use Rattle.std.proofs.Common.{rules, ◌≡◌, ◌≢◌, length, refl}
use Rattle.mends.specs.declared.outcome.Open.{Open}
use Rattle.mends.specs.declared.search.Search.{Search}
use Rattle.mends.proofs.Searched.{noted_enough, noted_open}
use Rattle.mends.proofs.turn.leave_open.Goals as goal

pub returns-then-len-eq-MOST_OPEN : goal.returns-then-len-eq-MOST_OPEN
returns-then-len-eq-MOST_OPEN c =
    let task = c.args.task.now in
    let one : Open = record { choice = c.in_ok-to_vec.field-0; set = c.args.untold.0; fault = c.args.untold.1 } in
    let same : one.choice.items ≡ c.args.choice.now = search rules in
    let many : length c.push.new.self.items ≡ 8 = search rules in
    noted_enough task.question.now task.limit task.object.now c.args.search.now c.args.choice.now one c.push.new.self.items same c.requires.turn c.requires.untold c.requires.new
    c.in_ok-push.ensures.items many

pub returns : goal.returns
returns c =
    let task = c.args.task.now in
    let old = c.args.search.now in
    let one : Open = record { choice = c.in_ok-to_vec.field-0; set = c.args.untold.0; fault = c.args.untold.1 } in
    let new : Search = record { queue = old.queue; ruled = old.ruled; untold = c.push.new.self } in
    let same : one.choice.items ≡ c.args.choice.now = search rules in
    let copy : c.in_ok-to_vec-2.field-0.items ≡ c.args.choice.now = search rules in
    let few : length c.push.new.self.items ≢ 8 = search rules in
    noted_open task.question.now task.limit task.object.now old new c.args.choice.now c.in_ok-to_vec-2.field-0.items one same copy c.requires.turn c.requires.untold c.requires.new
    refl refl c.in_ok-push.ensures.items few
