use Rattle.std.proofs.Common.{◌^◌, codes}
use Rattle.commands.specs.declared.jobs.ReplayOptions.{ReplayOptions}
use Rattle.clap.specs.Words.{first_of, found_of, rows_of}
use Rattle.px86.proofs.Requests.{no_number_of}
use Rattle.px86.proofs.options.replay_options.Goals as goal

pub returns-in_err-small_number_of : goal.returns-in_err-small_number_of
returns-in_err-small_number_of c = rw c.from_residual-in_err-small_number_of.ensures (λ (options : ReplayOptions) is.
    let rows = rows_of (found_of c.args.matches.now) in
    no_number_of (2 ^ 32) (first_of (codes "number") rows) options.number c.in_err-small_number_of.ensures is.number)
