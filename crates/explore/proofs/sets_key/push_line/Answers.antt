use Rattle.std.proofs.Common.{sym, ◌∙◌}
use Rattle.explore.proofs.LinesWithoutWrites.{none_written}
use Rattle.explore.proofs.sets_key.push_line.Goals as goal

pub returns-then-writes-eq0 : goal.returns-then-writes-eq0
returns-then-writes-eq0 c =
    none_written c.args.pending.now.memory c.args.line c.args.count c.args.bytes.now.items c.push_number.new.bytes.items (sym c.writes.ensures.value ∙ c.if-writes-eq0.true) c.in_ok-push_number.ensures
