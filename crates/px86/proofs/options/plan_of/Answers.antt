use Rattle.std.proofs.Common.{◌^◌, codes}
use Rattle.schedule.specs.declared.plan.Plan.{Plan}
use Rattle.clap.specs.Words.{first_of, found_of, rows_of}
use Rattle.px86.specs.CommandLines.{default_length}
use Rattle.px86.proofs.Requests.{no_number_or}
use Rattle.px86.proofs.options.plan_of.Goals as goal

pub returns-in_err-length : goal.returns-in_err-length
returns-in_err-length c = rw c.from_residual-in_err-length.ensures (λ (plan : Plan) is.
    let rows = rows_of (found_of c.args.matches.now) in
    no_number_or (2 ^ 32) (default_length rows) (first_of (codes "length") rows) plan.length c.in_err-length.ensures is.length)
