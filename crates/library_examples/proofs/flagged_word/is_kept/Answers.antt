use Rattle.std.proofs.Common.{◌≡◌, Ok, refl}
use Rattle.px86_machine.specs.EveryRun.{Holds}
use Rattle.px86_machine.specs.Machine.{opening}
use Rattle.library_examples.proofs.EveryCrash.{holds}
use Rattle.library_examples.proofs.flagged_word.is_kept.Goals as goal

pub returns-in-Ok-Holds : goal.returns-in-Ok-Holds
returns-in-Ok-Holds c =
    let s = opening c.args.object.now in
    let found = c.in-Ok-Holds.field-0-0 in
    let told = c.in-Ok-Holds.is in
    let held = c.in-Ok-Holds.field-0-is in
    let same : c.verdict_on.result ≡ Ok (Holds found) = cc in
    (λ yes. holds c.args.rule c.every_crash.result s 1000 c.verdict_on.result found c.every_crash.ensures same c.verdict_on.ensures, λ kept. refl)
