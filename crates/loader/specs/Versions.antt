-- The two versions of the format. They differ in the eighth byte, in how many processors there may be, and in whether the
-- names of the words are written.
use Rattle.std.specs.Prelude.{◌≡◌, ℕ, Option, Some, None, ◌==◌, if◌then◌else◌, length, map}
use Rattle.lines_layout.specs.Layouts.{NamedLines, numbered_lines}
use Rattle.isa.specs.Loadables.{max_processors}
use Rattle.loader.specs.declared.version.Version.{Version}
use Rattle.loader.specs.declared.version.Version.TheVariants.{One, Two}

-- the digit of a version, as an ASCII character
abbrev pub digit_of : Version → ℕ
digit_of One = 0x31
digit_of Two = 0x32

-- the version of a digit, if it is one's
abbrev pub version_of : ℕ → Option Version
version_of digit = if digit == 0x31 then Some One else if digit == 0x32 then Some Two else None

-- how many processors an object of version 1 may have
abbrev pub first_max_processors : ℕ
first_max_processors = 8

-- how many processors an object of a version may have
abbrev pub most_processors : Version → ℕ
most_processors One = first_max_processors
most_processors Two = max_processors

-- The version can write these names: version 1 has none, and its words are named by their numbers.
abbrev pub CanName : Version → NamedLines → Type 0
CanName One layout = layout ≡ numbered_lines (map length layout)
CanName Two layout = Unit {0}
