use Rattle.std.proofs.Common.{◌≡◌, Ok, rules}
use Rattle.debug_scripts.proofs.plan.debug_read.Goals as goal

pub returns : goal.returns
returns g c =
    let program : c.deref.result.now ≡ c.in_ok-sources.sources.program = search rules in
    let steps : c.deref-2.result.now ≡ c.in_ok-sources.sources.steps = search rules in
    record { read = Ok c.in_ok-sources.sources; reads = c.in_ok-sources.ensures; makes = rw (program, steps) at c.plan_of.ensures }
