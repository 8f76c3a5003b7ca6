use Rattle.std.proofs.Common.{sym, ap, ◌∙◌}
use Rattle.std.specs.Prelude.{is_some}
use Rattle.hunt.specs.declared.search.Asked.{Asked}
use Rattle.hunt.specs.Known.{breaks_in}
use Rattle.hunt.proofs.LeastLosses.{loss_there}
use Rattle.hunt.proofs.worker.found_on.Goals as goal

pub returns-in-None-clause-told : goal.returns-in-None-clause-told
returns-in-None-clause-told c =
    let search = c.args.target.now.search in
    let number = c.args.number in
    ap (λ (asked : Asked). breaks_in asked search.plan search.cond search.machine number) c.in-Crashes.is
    ∙ sym (loss_there search.plan search.cond search.machine number)
    ∙ ap is_some (sym c.in_ok-loss-in-Crashes.ensures.loss ∙ c.in-None.is)
