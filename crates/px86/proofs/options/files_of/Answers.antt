use Rattle.clap.specs.Words.{found_of}
use Rattle.px86.proofs.Requests.{copied_files, files_none, files_some}
use Rattle.px86.proofs.options.files_of.Goals as goal

pub returns-in-None : goal.returns-in-None
returns-in-None c = rw c.new.ensures.items (files_none (found_of c.args.matches.now) c.get_strs.result c.get_strs.ensures c.in-None.is)

pub returns-in-Some : goal.returns-in-Some
returns-in-Some c =
    copied_files c.to_vec.result c.in-Some.files.now _ c.to_vec.ensures.items_if_clones_equal (files_some (found_of c.args.matches.now) c.get_strs.result c.in-Some.files c.get_strs.ensures c.in-Some.is)
