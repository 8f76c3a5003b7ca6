-- A program with an instruction that was not there.
use Rattle.std.specs.Prelude.{ℕ, ◌+◌, Bool, true, false, nat_lt, Option, Some, None, option_map, List, map, slice_get, slice_set, if◌then◌else◌}
use Rattle.std.specs.List.{insert}
use Rattle.std.specs.Option.{option_and_then}
use Rattle.isa.specs.declared.instr.Instr.{Instr}
use Rattle.isa.specs.declared.instr.Instr.TheVariants.{Jump}
use Rattle.isa.specs.declared.programs.Programs.{Programs}
use Rattle.isa.specs.Loadables.{is_loadable}
use Rattle.isa.specs.Objects.{Object, shape}
use Rattle.isa.specs.Programs.{is_program}
use Rattle.image_reasons.specs.declared.repair.Repair.{Repair}
use Rattle.image_reasons.specs.declared.repair.Side.{Side}
use Rattle.image_reasons.specs.declared.repair.Side.TheVariants.{Before, Behind}

-- the place of what is put on a side of the instruction at a place
abbrev pub put_at : Side → ℕ → ℕ
put_at Before place = place
put_at Behind place = place + 1

-- Where a jump leads once an instruction is put next to the one at a place: what is behind that one is a place further. A jump to that
-- one leads to what is put before it, and a jump to the next one passes what is put behind it, as in a text with one line more.
abbrev pub shifted : ℕ → ℕ → ℕ
shifted place target = if nat_lt place target then target + 1 else target

-- an instruction, which leads on so if it is a jump
abbrev pub led_on : ℕ → Instr → Instr
led_on place (Jump kind target) = Jump kind (shifted place target)
led_on place instr = instr

-- the instructions with one more, on a side of the one at a place
abbrev pub with_instr : Side → ℕ → Instr → List Instr → List Instr
with_instr side place instr code = insert (map (led_on place) code) (put_at side place) instr

-- these instructions, if they are a program
abbrev pub as_program : List Instr → Option (List Instr)
as_program code = if is_program code then Some code else None

-- the main program of a processor, or its recovery program
abbrev pub code_of : Bool → Programs → List Instr
code_of false programs = programs.main
code_of true programs = programs.recovery

-- the programs of a processor with this one in its place
abbrev pub with_code : Bool → Programs → List Instr → Programs
with_code false programs code = record programs { main = code }
with_code true programs code = record programs { recovery = code }

-- the program of a site with the instruction
abbrev pub repaired_code : Repair → Programs → List Instr
repaired_code repair programs = with_instr repair.side repair.site.place repair.instr (code_of repair.site.recovering programs)

-- the programs of its processor with the instruction, if these are programs
abbrev pub repaired_programs : Repair → Programs → Option Programs
repaired_programs repair programs = option_map (with_code repair.site.recovering programs) (as_program (repaired_code repair programs))

-- an object with other programs of all processors, if they can be loaded
abbrev pub with_processors : Object → List Programs → Option Object
with_processors object processors = if is_loadable (shape object) processors then Some (record object { processors = processors }) else None

-- an object with other programs of a processor, if they can be loaded
abbrev pub with_programs : Object → ℕ → Programs → Option Object
with_programs object processor programs = with_processors object (slice_set object.processors processor programs)

-- The object with the instruction, and all else as it was. None where there is no such processor, or what comes out is no program, or
-- cannot be loaded.
abbrev pub repaired : Object → Repair → Option Object
repaired object repair =
    option_and_then (λ programs. option_and_then (with_programs object repair.site.processor) (repaired_programs repair programs))
    (slice_get object.processors repair.site.processor)
