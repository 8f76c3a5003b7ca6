use Rattle.clap.specs.Words.{subcommand_rows_of}
use Rattle.px86.proofs.Requests.{entered_none}
use Rattle.px86.proofs.request.entered_files.Goals as goal

pub returns-in-None : goal.returns-in-None
returns-in-None c = rw c.new.ensures.items (entered_none (subcommand_rows_of c.args.matches.now) c.in-None.ensures.rows)
