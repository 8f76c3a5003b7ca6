use Rattle.std.proofs.Common.{◌≡◌, rules, length}
use Rattle.live.specs.Receipts.{calls_of}
use Rattle.thread_jobs.proofs.BroughtReceipts.{brought_is_dealt}
use Rattle.thread_jobs.proofs.deal.closed_with.Goals as goal

pub returns-in-Ok-clause-dealt : goal.returns-in-Ok-clause-dealt
returns-in-Ok-clause-dealt g c =
    let closed = c.in-Ok.closed in let told = c.in-Ok.ensures in
    let count : length closed.journal.items ≡ calls_of c.args.seats.items = search rules in
    brought_is_dealt g.K.Naming.opening c.args.dealing.threads c.args.dealing.steps.now closed.journal.items c.args.seats.items c.args.receipts.items c.requires.brought told.legal.0 count told.stand
