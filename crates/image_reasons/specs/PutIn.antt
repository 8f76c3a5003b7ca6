-- That a repaired program is the old one with one instruction more.
use Rattle.std.specs.Prelude.{◌≡◌, ◌≢◌, ◌⊎◌, ℕ, ◌+◌, ◌<◌, ◌≤◌, Bool, true, false, Option, Some, option_map, List, [], length, slice_get, slice_set}
use Rattle.std.specs.Option.{option_map_or}
use Rattle.isa.specs.declared.instr.Instr.{Instr}
use Rattle.isa.specs.declared.programs.Programs.{Programs}
use Rattle.isa.specs.Loadables.{is_loadable}
use Rattle.isa.specs.Objects.{Object, shape}
use Rattle.isa.specs.Programs.{is_program}
use Rattle.image_reasons.specs.declared.repair.Repair.{Repair}
use Rattle.image_reasons.specs.declared.repair.Side.TheVariants.{Before}
use Rattle.image_reasons.specs.Repairs.{code_of, led_on, put_at, repaired_code, shifted, with_code}

-- a program of an object, without instructions where there is no such processor
abbrev pub code_at : Object → ℕ → Bool → List Instr
code_at object processor recovering = option_map_or (code_of recovering) (slice_get object.processors processor) []

-- the program of a repair's site
abbrev pub code_there : Object → Repair → List Instr
code_there object repair = code_at object repair.site.processor repair.site.recovering

-- The site is that of an instruction.
abbrev pub IsThere : Object → Repair → Type 0
IsThere object repair = repair.site.place < length (code_there object repair)

-- the place of what was put in
abbrev pub new_place : Repair → ℕ
new_place repair = put_at repair.side repair.site.place

-- the old instruction at a place, if there is one, with the place to which it leads now if it is a jump
abbrev pub old_instr : Repair → List Instr → ℕ → Option Instr
old_instr repair code place = option_map (led_on repair.site.place) (slice_get code place)

-- the place to which a jump leads now
abbrev pub new_target : Repair → ℕ → ℕ
new_target repair target = shifted repair.site.place target

-- The program has one instruction more. Those before it are where they were, and those behind it are a place further. A jump leads to the
-- instruction to which it led; only one to the instruction at the site leads to what was put before that.
pub record HasOneMore (repair : Repair) (old : List Instr) (code : List Instr) : Type 0 where
  pub program : is_program code ≡ true
  pub count : length code ≡ length old + 1
  pub there : slice_get code (new_place repair) ≡ Some repair.instr
  pub before : (i : ℕ) → i < new_place repair → slice_get code i ≡ old_instr repair old i
  pub behind : (i : ℕ) → new_place repair ≤ i → slice_get code (i + 1) ≡ old_instr repair old i
  pub jumps : (target : ℕ) → new_target repair target ≢ new_place repair
      → slice_get code (new_target repair target) ≡ old_instr repair old target
  pub led : (target : ℕ) → new_target repair target ≡ new_place repair → (repair.side ≡ Before) × (target ≡ repair.site.place)

-- Each other program is what it was.
abbrev pub OthersStay : Object → Repair → Object → Type 0
OthersStay object repair changed = (processor : ℕ) (recovering : Bool)
    → (processor ≢ repair.site.processor) ⊎ (recovering ≢ repair.site.recovering)
    → code_at changed processor recovering ≡ code_at object processor recovering

-- Names and values are the same, and there are as many processors.
abbrev pub RestStays : Object → Object → Type 0
RestStays object changed =
    (changed.layout ≡ object.layout) × (changed.values ≡ object.values) × (length changed.processors ≡ length object.processors)

-- the programs of all processors then, of which these are the site's
abbrev pub new_processors : Object → Repair → Programs → List Programs
new_processors object repair programs =
    slice_set object.processors repair.site.processor (with_code repair.site.recovering programs (repaired_code repair programs))

-- What would come out is no program, or cannot be loaded.
abbrev pub IsNoRepair : Object → Repair → Programs → Type 0
IsNoRepair object repair programs =
    (is_program (repaired_code repair programs) ≡ false) ⊎ (is_loadable (shape object) (new_processors object repair programs) ≡ false)
