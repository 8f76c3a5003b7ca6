use Rattle.std.proofs.Common.{rules, ◌<◌, ◌^◌, length}
use Rattle.jobs.proofs.RoomLacks.{unworn}
use Rattle.jobs.proofs.start.sound_machine.Goals as goal

pub returns-clause-fresh : goal.returns-clause-fresh
returns-clause-fresh c =
    let few : length c.args.steps.now < 2 ^ 60 = search rules in
    unworn c.args.object.now c.args.steps.now c.machine_after.result few c.machine_after.ensures.left
