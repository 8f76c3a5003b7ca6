use Rattle.std.proofs.Common.{◌∙◌, ap, nat_lt, sym}
use Rattle.std.proofs.lemmas.List.{length-map}
use Rattle.clap.specs.Words.{found_of}
use Rattle.px86.specs.CommandLines.{are_several}
use Rattle.px86.proofs.Requests.{files_none, files_some}
use Rattle.px86.proofs.options.has_several.Goals as goal

pub returns-in-None : goal.returns-in-None
returns-in-None c = ap are_several (files_none (found_of c.args.matches.now) c.get_strs.result c.get_strs.ensures c.in-None.is)

pub returns-in-Some : goal.returns-in-Some
returns-in-Some c =
    ap (nat_lt 1) (sym (length-map c.in-Some.files.now (λ v. v.now)))
    ∙ ap are_several (files_some (found_of c.args.matches.now) c.get_strs.result c.in-Some.files c.get_strs.ensures c.in-Some.is)
