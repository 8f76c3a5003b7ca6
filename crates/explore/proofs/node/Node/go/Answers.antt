use Rattle.std.proofs.Common.{◌≡◌, ap, subst, sym, ◌∙◌}
use Rattle.machine.specs.Programs.{AreSiblings}
use Rattle.machine.specs.State.{State}
use Rattle.machine.proofs.ProgramsStay.{run_sibling}
use Rattle.explore.specs.Found.{led_to}
use Rattle.explore.proofs.node.Node.go.Goals as goal

pub returns-clause-siblings : goal.returns-clause-siblings
returns-clause-siblings c =
    let start = c.args.start.now in
    let path = c.steps.result.now in
    let there : c.go.new.here ≡ led_to start path = c.in_ok-go.ensures.led ∙ ap (λ (s : State). led_to s path) c.requires.trail in
    subst (λ (s : State). AreSiblings s start) (sym there) (run_sibling path start)
