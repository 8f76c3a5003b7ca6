use Rattle.clap.specs.Words.{found_of}
use Rattle.px86.proofs.Requests.{option_is}
use Rattle.px86.proofs.options.value.Goals as goal

pub returns : goal.returns
returns c = option_is (found_of c.args.matches.now) c.args.name.now c.get_str.result c.get_str.ensures
