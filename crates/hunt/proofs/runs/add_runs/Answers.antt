use Rattle.std.proofs.Common.{rules, ◌≡◌, ◌+◌, ◌-◌, min, ◌∷◌, subst, arith}
use Rattle.hunt.specs.Runs.{AreRuns}
use Rattle.hunt.proofs.runs.add_runs.Goals as goal

pub add-requires : goal.add-requires
add-requires g c =
    let rest : c.loop-run.run-iterator.rest.items ≡ c.in-Some.run' ∷ c.next.new.self.rest.items = search rules in
    let given = c.requires in
    let (d, m, so_far, later, all) = c.loop-run.invariant given.first given.done given.more given.before given.after in
    let runs = subst (AreRuns (g.C.Counting.IsRun c.args.count.now) (given.first + d) m) rest later in
    let few = given.few in
    record { first = given.first; done = d; more = min 256 m; before = so_far; after = runs.0; few = omega (arith, few, all) }

pub loop-run-preserved : goal.loop-run-preserved
loop-run-preserved g c =
    let rest : c.loop-run.run-iterator.rest.items ≡ c.in-Some.run' ∷ c.next.new.self.rest.items = search rules in
    λ first done more was runs.
    let (d, m, so_far, later, all) = c.loop-run.invariant first done more was runs in
    let now = subst (AreRuns (g.C.Counting.IsRun c.args.count.now) (first + d) m) rest later in
    let place : (first + d) + min 256 m ≡ first + (d + min 256 m) = omega arith in (
      d + min 256 m,
      m - min 256 m,
      c.in_ok-add.ensures first d (min 256 m) so_far now.0,
      subst (λ a. AreRuns (g.C.Counting.IsRun c.args.count.now) a (m - min 256 m) c.next.new.self.rest.items) place now.1,
      omega (arith, all),
    )
