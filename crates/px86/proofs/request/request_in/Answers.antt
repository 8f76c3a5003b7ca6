use Rattle.std.proofs.Common.{rules}
use Rattle.clap.specs.Words.{found_of, rows_of}
use Rattle.px86.proofs.Requests.{form_is, moves_are, progress_is, request_is}
use Rattle.px86.proofs.request.request_in.Goals as goal

pub returns-clause-asked : goal.returns-clause-asked
returns-clause-asked c = request_is c.args.matches.now c.in_ok-name.name.now (rows_of (found_of c.in_ok-name.matches.now)) c.in_ok-named.field-0
    c.request_for.result (search rules) (search rules) (search rules) c.request_for.ensures.asked

pub returns-clause-moves : goal.returns-clause-moves
returns-clause-moves c = moves_are c.args.matches.now c.in_ok-name.name.now (rows_of (found_of c.in_ok-name.matches.now))
    c.request_for.result (search rules) (search rules) c.request_for.ensures.moves

pub returns-clause-progress : goal.returns-clause-progress
returns-clause-progress c = progress_is c.args.matches.now c.in_ok-name.name.now (rows_of (found_of c.in_ok-name.matches.now))
    c.request_for.result (search rules) (search rules) c.request_for.ensures.progress

pub returns-clause-form : goal.returns-clause-form
returns-clause-form c = form_is c.args.matches.now c.in_ok-name.name.now (rows_of (found_of c.in_ok-name.matches.now))
    c.request_for.result (search rules) (search rules) c.request_for.ensures.form
