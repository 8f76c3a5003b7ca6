-- How the logic stores a plan. Nothing here says anything about plans.
use Rattle.std.specs.Prelude.{refl}
use Rattle.std.specs.Coded.{Coded, code_by, coded×}
use Rattle.lines_layout.specs.Layouts.{NamedLines}
use Rattle.lines_layout.specs.contracts.layout.Layout as layout
use Rattle.machine.specs.State.{State}
use Rattle.machine.specs.contracts.machine.Machine as machine
use Rattle.debug_scripts.specs.Scripts.{Script}
use Rattle.debug_scripts.specs.ScriptCodes.{coded_script}
use Rattle.debug_scripts.specs.DebugPlans.{Plan}

abbrev pub coded_plan : Coded Plan
coded_plan =
    code_by (NamedLines × (State × Script)) (coded× layout.the_row.coded (coded× machine.the_row.coded coded_script))
    (λ p. (p.layout, (p.machine, p.script))) (λ c. record { layout = c.0; machine = c.1.0; script = c.1.1 }) (λ _. refl)
