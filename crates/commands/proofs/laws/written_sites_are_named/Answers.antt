use Rattle.commands.proofs.WrittenSites.{written_site}
use Rattle.commands.proofs.laws.written_sites_are_named.Goals as goal

pub returns : goal.returns
returns c = written_site
