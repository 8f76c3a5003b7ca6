use Rattle.std.proofs.Common.{◌≡◌, arith, subst}
use Rattle.std.specs.Prelude.{vec_len}
use Rattle.thread_jobs.specs.Brought.{AreBrought}
use Rattle.thread_jobs.proofs.BroughtReceipts.{IfOk-weaker}
use Rattle.thread_jobs.proofs.deal.deal_in.Goals as goal

pub returns : goal.returns
returns g c =
    let each = c.in_ok-joined.ensures.kept c.args.dealing.threads c.args.dealing.steps.now c.in_ok-workers.ensures.errands in
    let count : vec_len c.in_ok-joined.field-0 ≡ c.args.dealing.threads =
    omega (arith, c.in_ok-joined.ensures.len, c.in_ok-workers.ensures.few, c.len-started.ensures, c.if-started-dealing.false) in
    IfOk-weaker c.gathered.result _ (λ b. AreBrought c.args.dealing.threads c.args.dealing.threads c.args.dealing.steps.now b.0.items b.1.items)
    (λ b h. subst (λ n. AreBrought n c.args.dealing.threads c.args.dealing.steps.now b.0.items b.1.items) count (h c.args.dealing.threads c.args.dealing.steps.now each)) c.gathered.ensures
