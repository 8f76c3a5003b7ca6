-- What is said of what `asm` writes.
use Rattle.std.proofs.Common.{◌≡◌, Ok, refl}
use Rattle.loader.specs.Reading.{object_of}
use Rattle.loader.specs.Spelling.{object_bytes}
use Rattle.loader.specs.declared.version.Version.TheVariants.{Two}
use Rattle.isa.specs.Objects.{Object}
use Rattle.commands.specs.Programs.{program_of}
use Rattle.commands.specs.Works.{and_then}
use Rattle.jobs.specs.Reports.{dis_of, dis_work}

-- an object that is read again is the program that was written
pub read_again : (program : Object) → object_of (object_bytes Two program) ≡ Ok program → program_of (object_bytes Two program) ≡ Ok program
read_again program again = rw again refl

pub dis_again : (program : Object) → object_of (object_bytes Two program) ≡ Ok program → (dis_work (object_bytes Two program)).told ≡ Ok (dis_of program)
unfolding and_then
dis_again program again = rw again refl
