-- Faults of listings as reports print them.
use Rattle.std.specs.Prelude.{ℕ, List, codes}
use Rattle.pending_images.specs.declared.fault.ImageFault.{ImageFault}
use Rattle.pending_images.specs.declared.fault.ImageFault.TheVariants.{TooMany, NoMemory}

-- number and name
abbrev pub image_fault_text : ImageFault → List ℕ
image_fault_text TooMany = codes "I1 TooMany"
image_fault_text NoMemory = codes "I2 NoMemory"
