-- The registers of an outcome as JSON.
use Rattle.std.specs.Prelude.{ℕ, ◌==◌, if◌then◌else◌, List, [], ◌∷◌, slice_index}
use Rattle.std.specs.List.{flat_map}
use Rattle.isa.specs.declared.register.Reg.{Reg}
use Rattle.isa.specs.Registers.{name_of, registers, slot}
use Rattle.json_texts.specs.Objects.{Field, Tree, num, obj}

-- a register, unless it is 0, where the registers have these values
abbrev pub value_fields : List ℕ → Reg → List Field
value_fields values r = if slice_index values (slot r) == 0 then [] else ((name_of r, num (slice_index values (slot r))) ∷ [])

-- the registers that are not 0
abbrev pub values_data : List ℕ → Tree
values_data values = obj (flat_map (value_fields values) registers)
