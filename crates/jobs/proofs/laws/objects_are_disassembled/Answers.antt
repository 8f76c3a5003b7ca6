use Rattle.loader.specs.declared.version.Version.TheVariants.{Two}
use Rattle.jobs.proofs.ObjectsAreDisassembled.{dis_again, read_again}
use Rattle.jobs.proofs.laws.objects_are_disassembled.Goals as goal

pub returns-clause-read : goal.returns-clause-read
returns-clause-read c = λ program has. read_again program (c.objects_are_read.ensures.all Two program has)

pub returns-clause-dis : goal.returns-clause-dis
returns-clause-dis c = λ program has. dis_again program (c.objects_are_read.ensures.all Two program has)
