use Rattle.std.proofs.Common.{rules}
use Rattle.clap.specs.Words.{found_of, rows_of}
use Rattle.px86.proofs.Requests.{asks_both, explains_none}
use Rattle.px86.proofs.options.images_job.Goals as goal

pub returns-in-None : goal.returns-in-None
returns-in-None c = λ job is.
    explains_none (rows_of (found_of c.args.matches.now)) (search rules) (search rules) job is

pub returns-in-Some : goal.returns-in-Some
returns-in-Some c = λ job is.
    asks_both (rows_of (found_of c.args.matches.now)) c.in-Some.field-0.now (search rules) (search rules) job is
