-- Registers and words as texts of a line: what a report of outcomes says of each.
use Rattle.std.specs.Prelude.{ℕ, ◌==◌, if◌then◌else◌, List, [], ◌∷◌, ◌++◌, codes, decimal, slice_index}
use Rattle.std.specs.List.{flat_map}
use Rattle.lines_layout.specs.Layouts.{NamedLines}
use Rattle.lines_layout.specs.Names.{Text}
use Rattle.isa.specs.declared.register.Reg.{Reg}
use Rattle.isa.specs.Registers.{name_of, registers, slot}

-- a register of processor p, unless it is 0, where the registers have these values
abbrev pub register_text : ℕ → List ℕ → Reg → Text
register_text p values r =
    let value = slice_index values (slot r) in
    if value == 0 then [] else (codes " " ++ decimal p ++ codes ":" ++ name_of r ++ codes "=" ++ decimal value)

-- the registers of processor p that are not 0, in their order
abbrev pub registers_text : ℕ → List ℕ → Text
registers_text p values = flat_map (register_text p values) registers

-- the names of all words, in order of number
abbrev pub names_of : NamedLines → List Text
names_of lines = flat_map (λ names. names) lines

-- a text of each name with what belongs to it, as far as there are both
abbrev pub named_texts : {A : Type 0} → (Text → A → Text) → List Text → List A → Text
named_texts text_of [] values = []
named_texts text_of (name ∷ names) [] = []
named_texts text_of (name ∷ names) (value ∷ values) = text_of name value ++ named_texts text_of names values
