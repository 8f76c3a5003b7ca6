use Rattle.std.proofs.Common.{refl}
use Rattle.json_jobs.proofs.HuntsEndAsText.{hunted_same}
use Rattle.json_jobs.proofs.schedule_laws.statuses_are_those_of_text.Goals as goal

pub returns : goal.returns
returns c = record {
  tally = λ layout tally. refl;
  losses = λ runs losses. refl;
  ends = λ runs counts. refl;
  hunt = hunted_same;
  live = λ lined journal s. refl;
}
