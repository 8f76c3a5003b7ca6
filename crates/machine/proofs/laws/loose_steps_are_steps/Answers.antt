use Rattle.machine.proofs.LooseStepsAreSteps.{unwaited_step, unwaited_always, unheld_step, unheld_always}
use Rattle.machine.proofs.StepsWithoutOrderTests.{accepted_passes, refused_passes}
use Rattle.machine.proofs.laws.loose_steps_are_steps.Goals as goal

pub returns-clause-accepted : goal.returns-clause-accepted
returns-clause-accepted c = accepted_passes

pub returns-clause-refused : goal.returns-clause-refused
returns-clause-refused c = refused_passes

pub returns-clause-waits_only : goal.returns-clause-waits_only
returns-clause-waits_only c p s t = unwaited_step s t p

pub returns-clause-waits_always : goal.returns-clause-waits_always
returns-clause-waits_always c p s t = unwaited_always s t p

pub returns-clause-held_only : goal.returns-clause-held_only
returns-clause-held_only c p i holder s t = unheld_step s t p i holder

pub returns-clause-held_always : goal.returns-clause-held_always
returns-clause-held_always c p i holder s t = unheld_always s t p i holder
