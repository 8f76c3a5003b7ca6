-- Programs of which one instruction is changed, or several.
use Rattle.std.specs.Prelude.{◌≡◌, ◌≢◌, ◌<◌, ◌==◌, ℕ, zero, suc, Bool, true, None, if◌then◌else◌, List, length, [], ◌∷◌, slice_set}
use Rattle.isa.specs.declared.instr.Instr.{Instr}
use Rattle.isa.specs.declared.instr.Instr.TheVariants.{Nop}
use Rattle.isa.specs.declared.programs.Programs.{Programs}
use Rattle.isa.specs.Loadables.{names_its_words}
use Rattle.isa.specs.Objects.{Object, shape}
use Rattle.isa.specs.Operands.{target_of}
use Rattle.image_reasons.specs.declared.entries.Site.{Site}
use Rattle.image_reasons.specs.PutIn.{code_at}
use Rattle.image_reasons.specs.Repairs.{code_of, with_code}
use Rattle.fence_needs.specs.Sites.{instr_at}

-- a list with a change of what is at a place; all of it as it was where nothing is there
abbrev pub changed_at : {A : Type 0} → ℕ → (A → A) → List A → List A
changed_at n change [] = []
changed_at zero change (x ∷ xs) = change x ∷ xs
changed_at (suc n) change (x ∷ xs) = x ∷ changed_at n change xs

-- the programs of a processor with another instruction at a place of one of them
abbrev pub replaced_in : Bool → ℕ → Instr → Programs → Programs
replaced_in recovering place instr programs = with_code recovering programs (slice_set (code_of recovering programs) place instr)

-- the programs of the processor of this number, with another instruction at a site if it is theirs
abbrev pub replaced_if_theirs : ℕ → Site → Instr → Programs → Programs
replaced_if_theirs processor site instr programs =
    if processor == site.processor then replaced_in site.recovering site.place instr programs else programs

-- the programs of all processors with another instruction at a site
abbrev pub all_replaced : Site → Instr → List Programs → List Programs
all_replaced site instr processors = changed_at site.processor (replaced_in site.recovering site.place instr) processors

-- the object with another instruction at a site, and all else as it was
abbrev pub replaced : Object → Site → Instr → Object
replaced object site instr = record object { processors = all_replaced site instr object.processors }

-- the object with a nop at a site, and all else as it was
abbrev pub without : Object → Site → Object
without object site = replaced object site Nop

-- the object without the instructions at these sites
abbrev pub without_all : Object → List Site → Object
without_all object [] = object
without_all object (site ∷ sites) = without_all (without object site) sites

-- The instruction may stand anywhere in the programs of an object: it jumps nowhere, and names no word but those of the layout.
pub record MayStandIn (object : Object) (instr : Instr) : Type 0 where
  pub stays : target_of instr ≡ None
  pub words : names_its_words (shape object) instr ≡ true

-- There is an instruction at the site.
abbrev pub IsAPlace : Object → Site → Type 0
IsAPlace object site = site.place < length (code_at object site.processor site.recovering)

-- At each other site is what was there.
abbrev pub OthersStay : Object → Site → Instr → Type 0
OthersStay object site instr = (other : Site) → other ≢ site → instr_at (replaced object site instr) other ≡ instr_at object other

-- No program is longer or shorter.
abbrev pub LengthsStay : Object → Site → Instr → Type 0
LengthsStay object site instr = (processor : ℕ) (recovering : Bool)
    → length (code_at (replaced object site instr) processor recovering) ≡ length (code_at object processor recovering)

-- There are as many processors.
abbrev pub ProcessorsStay : Object → Site → Instr → Type 0
ProcessorsStay object site instr = length (replaced object site instr).processors ≡ length object.processors

-- Names and values are the same.
abbrev pub WordsStay : Object → Site → Instr → Type 0
WordsStay object site instr = ((replaced object site instr).layout ≡ object.layout) × ((replaced object site instr).values ≡ object.values)
