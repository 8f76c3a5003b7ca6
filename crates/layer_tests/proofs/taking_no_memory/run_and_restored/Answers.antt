use Rattle.std.proofs.Common.{◌∙◌, ap, sym, map}
use Rattle.machine.specs.State.{State}
use Rattle.machine.specs.Steps.{End}
use Rattle.machine.specs.Processors.{programs_of}
use Rattle.machine.proofs.ProgramsStay.{run_sibling}
use Rattle.layer_tests.proofs.taking_no_memory.run_and_restored.Goals as goal

pub restore-requires : goal.restore-requires
restore-requires c =
    let state = ap (λ (e : End). e.state) c.run-made.ensures.run in
    let stays = run_sibling c.args.steps.now c.args.machine.now in
    record {
      shape = ap (λ (s : State). s.shape) (sym state) ∙ stays.shape ∙ c.requires.shape;
      programs = ap (λ (s : State). map programs_of s.processors) (sym state) ∙ stays.programs ∙ c.requires.programs;
    }
