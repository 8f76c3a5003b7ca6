use Rattle.px86.proofs.WentOn.{converses_too}
use Rattle.px86.proofs.task.converse.Goals as goal

pub returns : goal.returns
returns g c =
    let (file, standard, went) = g.met.O.Outside.seen c.args.outside.now in
    rw c.explained.ensures
    (record {
      program = c.args.program;
      program_after = c.converse-answer.new.program;
      console = c.console-console.result;
      console_after = c.converse-answer.new.terminal;
      is_file = c.requires.file;
      is_console = c.console-console.ensures.console;
      converses = rw file (converses_too _ _ (went c.console-console.result c.converse-answer.new.terminal) _ _ c.converse-answer.ensures);
    })
