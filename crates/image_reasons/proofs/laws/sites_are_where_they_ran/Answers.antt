use Rattle.image_reasons.proofs.SitesAreWhereTheyRan.{sites_are_where_they_ran}
use Rattle.image_reasons.proofs.laws.sites_are_where_they_ran.Goals as goal

pub returns : goal.returns
returns c = sites_are_where_they_ran
