-- The program of a code, or its fault, as a function of the bytes. `codes_are_read` ties it to what Code and Faults say.
use Rattle.std.specs.Prelude.{ℕ, zero, suc, ◌+◌, ℤ, pos, ◌+ℤ◌, Bool, true, not, find, Option, Some, is_some, option_map, Result, Ok, Err, List, [], ◌∷◌, length}
use Rattle.std.specs.List.{range_with_len}
use Rattle.std.specs.Option.{option_map_or}
use Rattle.std.specs.Ordering.{int_eq}
use Rattle.outcomes.specs.Outcomes.{◌>>=◌, refuse, refused_as, required}
use Rattle.lines_layout.specs.Lines.{word_at}
use Rattle.isa.specs.declared.instr.Instr.{Instr}
use Rattle.isa.specs.declared.instr.Instr.TheVariants as instrs
use Rattle.isa.specs.declared.instr.MemoryOperand.{MemoryOperand}
use Rattle.isa.specs.declared.instr.MemoryOperand.TheVariants as operands
use Rattle.isa.specs.Programs.{max_instructions}
use Rattle.codec.specs.declared.form.Address.{Address}
use Rattle.codec.specs.declared.form.Address.TheVariants.{Absolute, Register}
use Rattle.codec.specs.declared.form.Form.{Form}
use Rattle.codec.specs.declared.form.Form.TheVariants.{Set, Compute, Jump, Nop, Memory, Fence}
use Rattle.codec.specs.declared.form.Miss.{Miss}
use Rattle.codec.specs.declared.form.Miss.TheVariants as misses
use Rattle.codec.specs.declared.fault.CodeFault.{CodeFault}
use Rattle.codec.specs.declared.fault.CodeFault.TheVariants.{Unknown, Truncated, BadAddress, BadTarget, TooLong}
use Rattle.codec.specs.Forms.{bytes_of}
use Rattle.codec.specs.Faults.{offset, address_in}
use Rattle.codec.specs.Reading.{form_at}

-- the memory operand of an address, if it is a word of the shape or in a register
abbrev pub operand_at : List ℕ → Address → Option MemoryOperand
operand_at shape (Absolute address) = option_map operands.Word (word_at shape address)
operand_at shape (Register r) = Some (operands.Register r)

-- whether a form names a word of the shape, or its address is in a register, or it names nothing in memory
abbrev pub names_word : List ℕ → Form → Bool
names_word shape x = option_map_or (λ m. is_some (operand_at shape m)) (address_in x) true

-- the fault of a form that is not there, at this offset
abbrev pub fault_at : ℕ → Miss → CodeFault
fault_at at misses.Truncated = Truncated at
fault_at at misses.Unknown = Unknown at

-- the form at this offset, and what follows it
abbrev pub good_form_at : List ℕ → ℕ → List ℕ → Result (Form × List ℕ) CodeFault
good_form_at shape at bytes = do
  x ← refused_as (fault_at at) (form_at bytes)
  named ← refuse (BadAddress at) (not (names_word shape x.0))
  Ok x

-- the forms that the bytes are, from this offset on, where there is room for so many
unfoldable pub forms_from : List ℕ → ℕ → ℕ → List ℕ → Result (List Form) CodeFault
forms_from shape room at [] = Ok []
forms_from shape zero at (b ∷ bytes) = Err TooLong
forms_from shape (suc room) at (b ∷ bytes) = do
  x ← good_form_at shape at (b ∷ bytes)
  xs ← forms_from shape room (at + length (bytes_of x.0)) x.1
  Ok (x.0 ∷ xs)

-- the number of the form that begins at this offset, or of their end
unfoldable pub target_at : List Form → ℤ → Option ℕ
target_at xs z = find (λ t. int_eq (pos (offset xs t)) z) (range_with_len 0 (length xs + 1))

-- where form k of xs leads, if it jumps this far
abbrev pub target_of : List Form → ℕ → ℤ → Option ℕ
target_of xs k d = target_at xs (pos (offset xs (suc k)) +ℤ d)

-- the instruction that form k of xs is, if it leads somewhere
unfoldable pub instr_of : List ℕ → List Form → ℕ → Form → Option Instr
instr_of shape xs k (Set r source) = Some (instrs.Set r source)
instr_of shape xs k (Compute operation r n) = Some (instrs.Compute operation r n)
instr_of shape xs k (Jump kind d) = option_map (λ t. instrs.Jump kind t) (target_of xs k d)
instr_of shape xs k Nop = Some instrs.Nop
instr_of shape xs k (Memory access m) = option_map (λ operand. instrs.Memory access operand) (operand_at shape m)
instr_of shape xs k (Fence kind) = Some (instrs.Fence kind)

-- the instructions of these forms of xs, of which the first has the number k, or the first jump that leads nowhere
unfoldable pub instrs_from : List ℕ → List Form → ℕ → List Form → Result (List Instr) CodeFault
instrs_from shape xs k [] = Ok []
instrs_from shape xs k (x ∷ rest) = do
  instr ← required (BadTarget (offset xs k)) (instr_of shape xs k x)
  others ← instrs_from shape xs (suc k) rest
  Ok (instr ∷ others)

-- the program of a code, or its fault
unfoldable pub program_of : List ℕ → List ℕ → Result (List Instr) CodeFault
program_of shape bytes = do
  xs ← forms_from shape max_instructions 0 bytes
  instrs_from shape xs 0 xs
