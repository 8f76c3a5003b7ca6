-- The value of a program: what a text and a file of it say, and a machine is loaded from.
use Rattle.std.specs.Prelude.{◌≡◌, ℕ, true, List, length, map}
use Rattle.lines_layout.specs.Layouts.{NamedLines}
use Rattle.lines_layout.specs.Lines.{max_words}
use Rattle.lines_layout.specs.Values.{IsZeroElsewhere}
use Rattle.isa.specs.declared.programs.Programs.{Programs}
use Rattle.isa.specs.Loadables.{is_loadable}

pub record Object : Type 0 where
  -- the names of the words of each cache line
  pub layout : NamedLines
  -- the initial value of each word, by its number
  pub values : List ℕ
  -- the programs of each processor
  pub processors : List Programs

-- that of these parts
abbrev pub made_of : NamedLines → List ℕ → List Programs → Object
made_of layout values processors = record { layout = layout; values = values; processors = processors }

-- how many words each cache line has
abbrev pub shape : Object → List ℕ
shape o = map length o.layout

-- Few enough processors, no word named but those of the layout, and a value for each number that a word may have, 0 where
-- it is no word of the layout.
pub record IsObject (o : Object) : Type 0 where
  pub loadable : is_loadable (shape o) o.processors ≡ true
  pub count : length o.values ≡ max_words
  pub zero : IsZeroElsewhere (shape o) o.values
