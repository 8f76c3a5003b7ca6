-- When bytes are no program's, and which fault they have then.
use Rattle.std.specs.Prelude.{◌≡◌, ◌≢◌, ℕ, suc, ◌<◌, ◌≤◌, ℤ, pos, ◌+ℤ◌, true, Option, Some, None, IfSome, List, [], ◌∷◌, ◌++◌, length, take, codes, decimal}
use Rattle.std.specs.List.{flat_map, sum_by, AllByRecursion}
use Rattle.lines_layout.specs.Lines.{address_of, has_word}
use Rattle.isa.specs.Programs.{max_instructions}
use Rattle.codec.specs.declared.form.Address.{Address}
use Rattle.codec.specs.declared.form.Address.TheVariants.{Absolute, Register}
use Rattle.codec.specs.declared.form.Form.{Form}
use Rattle.codec.specs.declared.form.Form.TheVariants.{Memory, Jump}
use Rattle.codec.specs.declared.fault.CodeFault.{CodeFault}
use Rattle.codec.specs.declared.fault.CodeFault.TheVariants.{Unknown, Truncated, BadAddress, BadTarget, TooLong}
use Rattle.codec.specs.Forms.{bytes_of, Fits}

-- what is printed of a fault
abbrev pub fault_text : CodeFault → List ℕ
fault_text (Unknown at) = codes "C1 Unknown " ++ decimal at
fault_text (Truncated at) = codes "C2 Truncated " ++ decimal at
fault_text (BadAddress at) = codes "C3 BadAddress " ++ decimal at
fault_text (BadTarget at) = codes "C4 BadTarget " ++ decimal at
fault_text TooLong = codes "C5 TooLong"

-- A form is at the front, with rest after it.
pub record IsFirstForm (bytes : List ℕ) (x : Form) (rest : List ℕ) : Type 0 where
  pub parts : bytes ≡ bytes_of x ++ rest
  pub fits : Fits x

-- The bytes are a beginning of a form, and not the whole of it.
pub record IsCut (bytes : List ℕ) : Type 0 where
  pub x : Form
  pub more : List ℕ
  pub longer : more ≢ []
  pub whole : IsFirstForm (bytes ++ more) x []

-- No form is at the front, however the bytes go on.
abbrev pub HasNoForm : List ℕ → Type 0
HasNoForm bytes = (x : Form) (more rest : List ℕ) → IsFirstForm (bytes ++ more) x rest → ⊥

-- what a form names in memory
abbrev pub address_in : Form → Option Address
address_in (Memory access m) = Some m
address_in _ = None

-- how far a form jumps
abbrev pub distance_in : Form → Option ℤ
distance_in (Jump kind d) = Some d
distance_in _ = None

-- The address is that of a word of the shape, or a register holds it.
abbrev pub IsAddress : List ℕ → Address → Type 0
IsAddress shape (Absolute address) = (word : ℕ) × (has_word shape word ≡ true) × (address ≡ address_of word)
IsAddress shape (Register r) = Unit {0}

-- A form names a word of the shape, or its address is in a register, or it names nothing in memory.
abbrev pub NamesWord : List ℕ → Form → Type 0
NamesWord shape x = IfSome (address_in x) (IsAddress shape)

abbrev pub IsGood : List ℕ → Form → Type 0
IsGood shape x = Fits x × NamesWord shape x

-- The bytes are these forms, and then rest.
pub record Reads (shape bytes : List ℕ) (xs : List Form) (rest : List ℕ) : Type 0 where
  pub parts : bytes ≡ flat_map bytes_of xs ++ rest
  pub good : AllByRecursion (IsGood shape) xs

-- Before this offset are forms, fewer than a program may have, and rest begins there.
pub record Reaches (shape bytes : List ℕ) (at : ℕ) (rest : List ℕ) : Type 0 where
  pub xs : List Form
  pub reads : Reads shape bytes xs rest
  pub room : length xs < max_instructions
  pub here : at ≡ length (flat_map bytes_of xs)

-- the offset of form t, or the length of all where t is the number of forms
abbrev pub offset : List Form → ℕ → ℕ
offset xs t = sum_by (λ x. length (bytes_of x)) (take t xs)

-- Form k of xs does not jump, or jumps to a form of xs or to their end.
abbrev pub JumpsToAForm : List Form → ℕ → Form → Type 0
JumpsToAForm xs k x = IfSome (distance_in x) (λ d. (t : ℕ) × (t ≤ length xs) × (pos (offset xs t) ≡ pos (offset xs (suc k)) +ℤ d))

-- So do all these forms of xs, of which the first has the number k.
abbrev pub AllJumpToForms : List Form → ℕ → List Form → Type 0
AllJumpToForms xs k [] = Unit {0}
AllJumpToForms xs k (y ∷ ys) = JumpsToAForm xs k y × AllJumpToForms xs (suc k) ys

-- The form at this offset is the first of xs that leads nowhere.
pub record GoesAstray (xs : List Form) (at : ℕ) : Type 0 where
  pub before : List Form
  pub x : Form
  pub after : List Form
  pub parts : xs ≡ before ++ x ∷ after
  pub lead : AllJumpToForms xs 0 before
  pub astray : JumpsToAForm xs (length before) x → ⊥
  pub here : at ≡ length (flat_map bytes_of before)

-- The bytes are no program's, and this is their fault.
abbrev pub IsFault : List ℕ → List ℕ → CodeFault → Type 0
IsFault shape bytes TooLong = (xs : List Form) × (rest : List ℕ) × Reads shape bytes xs rest × (length xs ≡ max_instructions) × (rest ≢ [])
IsFault shape bytes (BadAddress at) = (rest : List ℕ) × (x : Form) × (after : List ℕ) × Reaches shape bytes at rest × IsFirstForm rest x after × (NamesWord shape x → ⊥)
IsFault shape bytes (Truncated at) = (rest : List ℕ) × Reaches shape bytes at rest × (rest ≢ []) × IsCut rest
IsFault shape bytes (Unknown at) = (rest : List ℕ) × Reaches shape bytes at rest × HasNoForm rest
IsFault shape bytes (BadTarget at) = (xs : List Form) × Reads shape bytes xs [] × (length xs ≤ max_instructions) × GoesAstray xs at
