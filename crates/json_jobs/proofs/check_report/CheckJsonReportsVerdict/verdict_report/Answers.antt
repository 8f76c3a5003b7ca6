use Rattle.std.proofs.Common.{IfOk, subst, sym}
use Rattle.explore.specs.declared.verdict.Verdict.{Verdict}
use Rattle.json_jobs.specs.RunReports.{CheckJson, MayReport}
use Rattle.json_jobs.proofs.check_report.CheckJsonReportsVerdict.verdict_report.Goals as goal

pub returns-in-Fails : goal.returns-in-Fails
returns-in-Fails g c =
    let options = c.self.inside.options.now in
    let start = c.args.start.now in
    let made = c.explained_report.result in
    let of_verdict = subst (λ (verdict : Verdict). IfOk made (MayReport options start verdict)) (sym c.in-Fails.is) c.explained_report.ensures in
    subst (λ (asked : CheckJson). IfOk made (MayReport asked.options start c.args.verdict.now)) c.self.view_is of_verdict
