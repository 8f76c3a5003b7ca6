-- Which fault bytes have that are no object's, in the words of the format: all that is before is spelled, and here a byte
-- may not be there or bytes are missing. `faults_are_the_first` ties it to the function that reads.
use Rattle.std.specs.Prelude.{◌≡◌, ◌≢◌, ◌⊎◌, ℕ, ◌+◌, ◌*◌, ◌^◌, ◌<◌, ◌≤◌, true, false, List, [], ◌∷◌, ◌++◌, length, map, All}
use Rattle.std.specs.Int.{w32, w64, byte_len, to_le_bytes}
use Rattle.std.specs.List.{flat_map}
use Rattle.lines_layout.specs.Lines.{line_words, max_lines}
use Rattle.lines_layout.specs.Names.{Text, is_name, name_length}
use Rattle.lines_layout.specs.Shapes.{IsShape, words_of}
use Rattle.lines_layout.specs.Layouts.{IsLayout, NamedLines, is_taken}
use Rattle.isa.specs.declared.instr.Instr.{Instr}
use Rattle.isa.specs.declared.programs.Programs.{Programs}
use Rattle.codec.specs.declared.fault.CodeFault.{CodeFault}
use Rattle.codec.specs.Code.{HasCode}
use Rattle.codec.specs.Faults.{IsFault as IsFaultOfProgram}
use Rattle.isa.specs.Objects.{Object}
use Rattle.loader.specs.declared.fault.ObjectFault.{ObjectFault}
use Rattle.loader.specs.declared.fault.ObjectFault.TheVariants.{BadMagic, Short, Trailing, BadCount, BadCode, BadName}
use Rattle.loader.specs.declared.fault.ProgramRole.{ProgramRole}
use Rattle.loader.specs.declared.fault.ProgramRole.TheVariants.{Main, Recovery}
use Rattle.loader.specs.declared.version.Version.{Version}
use Rattle.loader.specs.declared.version.Version.TheVariants.{Two}
use Rattle.loader.specs.Versions.{CanName, digit_of, most_processors}
use Rattle.loader.specs.Spelling.{HasSpelling, HaveCodes, code_bytes, magic, name_bytes, names_bytes, object_bytes, programs_bytes, shape_bytes, version_bytes}

-- A byte differs from that of the magic, the digit is that of no version, or one of these bytes is missing.
pub data IsFaultOfVersion (bytes : List ℕ) : ObjectFault → Type 0 where
  other_byte : (front : List ℕ) (b c : ℕ) (rest more : List ℕ) → bytes ≡ front ++ b ∷ rest → magic ≡ front ++ c ∷ more → b ≢ c → IsFaultOfVersion bytes BadMagic
  other_digit : (digit : ℕ) (rest : List ℕ) → bytes ≡ magic ++ digit ∷ rest → ((v : Version) → digit ≢ digit_of v) → IsFaultOfVersion bytes BadMagic
  cut_version : (more : List ℕ) → magic ≡ bytes ++ more → IsFaultOfVersion bytes Short

-- A count of one byte is above its limit, or missing.
pub data IsFaultOfCount (most : ℕ) (bytes : List ℕ) : ObjectFault → Type 0 where
  high_count : (n : ℕ) (rest : List ℕ) → bytes ≡ n ∷ rest → most < n → IsFaultOfCount most bytes BadCount
  no_count : bytes ≡ [] → IsFaultOfCount most bytes Short

-- The count of the lines is at fault, or the count of one line's words; those of the lines before it are not.
pub data IsFaultOfShape (bytes : List ℕ) : ObjectFault → Type 0 where
  in_lines : (fault : ObjectFault) → IsFaultOfCount max_lines bytes fault → IsFaultOfShape bytes fault
  in_words : (n : ℕ) (sizes rest : List ℕ) (fault : ObjectFault) → bytes ≡ n ∷ (sizes ++ rest) → n ≤ max_lines → length sizes < n → All (λ size. size ≤ line_words) sizes
      → IsFaultOfCount line_words rest fault → IsFaultOfShape bytes fault

-- The name of this word, after these lines and these names of its own line: no name has its length; or it is misspelled, a
-- register's, or that of an earlier word; or its length or one of its bytes is missing.
pub data IsFaultOfName (before : NamedLines) (line : List Text) (word : ℕ) (bytes : List ℕ) : ObjectFault → Type 0 where
  bad_length : (n : ℕ) (rest : List ℕ) → bytes ≡ n ∷ rest → (n ≡ 0) ⊎ (name_length < n) → IsFaultOfName before line word bytes (BadName word)
  bad_name : (name : Text) (rest : List ℕ) → bytes ≡ name_bytes name ++ rest → (is_name name ≡ false) ⊎ (is_taken before line name ≡ true)
      → IsFaultOfName before line word bytes (BadName word)
  no_length : bytes ≡ [] → IsFaultOfName before line word bytes Short
  cut_name : (n : ℕ) (rest : List ℕ) → bytes ≡ n ∷ rest → n ≤ name_length → length rest < n → IsFaultOfName before line word bytes Short

-- The names: these lines have theirs, and so have the first words of the next line, but not the word after those.
pub record IsFaultOfNames (shape bytes : List ℕ) (fault : ObjectFault) : Type 0 where
  pub before : NamedLines
  pub line : List Text
  pub size : ℕ
  pub sizes : List ℕ
  pub rest : List ℕ
  pub lines : shape ≡ map length before ++ size ∷ sizes
  pub room : length line < size
  pub layout : IsLayout (before ++ line ∷ [])
  pub parts : bytes ≡ flat_map (flat_map name_bytes) before ++ (flat_map name_bytes line ++ rest)
  pub here : IsFaultOfName before line (line_words * length before + length line) rest fault

-- A program after the length of its code: the code has a fault, or bytes are missing.
pub data IsFaultOfCode (shape : List ℕ) (cpu : ℕ) (role : ProgramRole) (bytes : List ℕ) : ObjectFault → Type 0 where
  bad_code : (code rest : List ℕ) (fault : CodeFault) → bytes ≡ to_le_bytes w32 (length code) ++ (code ++ rest) → length code < 2 ^ 32 → IsFaultOfProgram shape code fault
      → IsFaultOfCode shape cpu role bytes (BadCode cpu role fault)
  cut_size : length bytes < byte_len w32 → IsFaultOfCode shape cpu role bytes Short
  cut_code : (n : ℕ) (rest : List ℕ) → bytes ≡ to_le_bytes w32 n ++ rest → n < 2 ^ 32 → length rest < n → IsFaultOfCode shape cpu role bytes Short

-- The main program of a processor, or the recovery program after it.
pub data IsFaultOfProcessor (shape : List ℕ) (cpu : ℕ) (bytes : List ℕ) : ObjectFault → Type 0 where
  in_main : (fault : ObjectFault) → IsFaultOfCode shape cpu Main bytes fault → IsFaultOfProcessor shape cpu bytes fault
  in_recovery : (main : List Instr) (rest : List ℕ) (fault : ObjectFault) → bytes ≡ code_bytes main ++ rest → HasCode shape main
      → IsFaultOfCode shape cpu Recovery rest fault → IsFaultOfProcessor shape cpu bytes fault

-- The programs of n processors: these processors have theirs, but not the next.
pub record IsFaultOfProcessors (shape : List ℕ) (n : ℕ) (bytes : List ℕ) (fault : ObjectFault) : Type 0 where
  pub before : List Programs
  pub rest : List ℕ
  pub room : length before < n
  pub codes : All (HaveCodes shape) before
  pub parts : bytes ≡ flat_map programs_bytes before ++ rest
  pub here : IsFaultOfProcessor shape (length before) rest fault

-- all that is before the values
abbrev pub named_bytes : Version → NamedLines → List ℕ
named_bytes version layout = version_bytes version ++ (shape_bytes (map length layout) ++ names_bytes version layout)

-- how many bytes the values take
abbrev pub values_length : NamedLines → ℕ
values_length layout = byte_len w64 * length (words_of (map length layout))

-- The version can write this layout.
pub record HasNames (version : Version) (layout : NamedLines) : Type 0 where
  pub good : IsLayout layout
  pub told : CanName version layout

-- The fault of bytes: that of their first part that has one.
pub data IsFault (bytes : List ℕ) : ObjectFault → Type 0 where
  in_version : (fault : ObjectFault) → IsFaultOfVersion bytes fault → IsFault bytes fault
  in_shape : (v : Version) (rest : List ℕ) (fault : ObjectFault) → bytes ≡ version_bytes v ++ rest → IsFaultOfShape rest fault → IsFault bytes fault
  in_names : (shape rest : List ℕ) (fault : ObjectFault) → bytes ≡ version_bytes Two ++ (shape_bytes shape ++ rest) → IsShape shape → IsFaultOfNames shape rest fault → IsFault bytes fault
  in_values : (v : Version) (layout : NamedLines) (rest : List ℕ) → bytes ≡ named_bytes v layout ++ rest → HasNames v layout → length rest < values_length layout → IsFault bytes Short
  in_count : (v : Version) (layout : NamedLines) (values rest : List ℕ) (fault : ObjectFault) → bytes ≡ named_bytes v layout ++ (values ++ rest) → HasNames v layout → length values ≡ values_length layout
      → IsFaultOfCount (most_processors v) rest fault → IsFault bytes fault
  in_processors : (v : Version) (layout : NamedLines) (values : List ℕ) (n : ℕ) (rest : List ℕ) (fault : ObjectFault) → bytes ≡ named_bytes v layout ++ (values ++ n ∷ rest) → HasNames v layout
      → length values ≡ values_length layout → n ≤ most_processors v → IsFaultOfProcessors (map length layout) n rest fault → IsFault bytes fault
  behind : (v : Version) (o : Object) (b : ℕ) (rest : List ℕ) → bytes ≡ object_bytes v o ++ b ∷ rest → HasSpelling v o → IsFault bytes Trailing
