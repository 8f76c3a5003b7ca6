use Rattle.std.proofs.Common.{◌∙◌}
use Rattle.clap.specs.Words.{found_of}
use Rattle.px86.proofs.Requests.{yes_is}
use Rattle.px86.proofs.options.is_given.Goals as goal

pub returns : goal.returns
returns c = c.unwrap_or.ensures ∙ yes_is _ (found_of c.args.matches.now) c.args.name.now c.get_one.result c.get_one.ensures.none c.get_one.ensures.value
