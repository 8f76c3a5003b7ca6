use Rattle.std.proofs.Common.{rules, ◌+◌, ◌<◌, ◌≤◌, Option, arith, subst, length}
use Rattle.explore.specs.declared.visit.Stop.{Stop}
use Rattle.explore.specs.Exploring.{IsVisit}
use Rattle.explore.proofs.ExploringEnds.{too_large}
use Rattle.explore.proofs.search.explore.Goals as goal

pub loop-at-init : goal.loop-at-init
loop-at-init g c = record {
  way = λ sound way. way;
  few = omega arith;
  node = c.requires.node;
  trail = c.requires.trail;
  spare = c.requires.spare;
}

pub returns-then-len-limit : goal.returns-then-len-limit
returns-then-len-limit g c = λ sound way.
    let many : c.args.limit < length c.loop-at.search.found.paths = search rules in
    too_large c.args.question.now c.args.start.now c.loop-at.search.found c.loop-at.search.gathered c.loop-at.at c.args.limit many (c.loop-at.invariant.way sound way)

pub returns-in-Some : goal.returns-in-Some
returns-in-Some g c = λ sound way.
    subst (λ (stop : Option Stop). IsVisit c.args.question.now c.args.start.now c.args.limit c.loop-at.at stop c.visit.new.search.found c.visit.new.search.gathered) c.in-Some.is
    (c.in-Ok.ensures.visit c.args.limit sound (c.loop-at.invariant.way sound way))

pub loop-at-preserved : goal.loop-at-preserved
loop-at-preserved g c =
    let few : c.loop-at.at + 1 ≤ c.args.limit = search rules in record {
      way = λ sound way. subst (λ (stop : Option Stop). IsVisit c.args.question.now c.args.start.now c.args.limit c.loop-at.at stop c.visit.new.search.found c.visit.new.search.gathered) c.in_default-stop.is
          (c.in-Ok.ensures.visit c.args.limit sound (c.loop-at.invariant.way sound way));
      few = few;
      node = c.in-Ok.ensures.node;
      trail = c.in-Ok.ensures.trail;
      spare = c.in-Ok.ensures.spare;
    }

pub returns : goal.returns
returns g c = λ sound way.
    let all : length c.loop-at.search.found.paths ≤ c.loop-at.at = search rules in
    (c.loop-at.at, all, c.loop-at.invariant.few, c.loop-at.invariant.way sound way)
